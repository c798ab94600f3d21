-- The code's block counts and reserves, as those of the definitions.
use Rattle.sessions.specs.Plans as plans
use Rattle.sessions.specs.Grants as grants
use Rattle.plan_api.specs.declared.counts.BlockCounts.{BlockCounts}
use Rattle.plan_api.specs.declared.counts.Reserve.{Reserve}
use Rattle.plan_api.specs.declared.counts.Reserve.TheVariants as reserves

-- the block counts, as the definitions have them
abbrev pub session_counts : BlockCounts → grants.BlockCounts
session_counts c = record { blocks = c.blocks; free = c.free; large = c.large }

-- the reserve, as the definitions have it
abbrev pub session_reserve : Reserve → plans.Reserve
session_reserve reserves.Nothing = plans.Nothing
session_reserve reserves.Copies = plans.Copies
session_reserve reserves.Headroom = plans.Headroom
