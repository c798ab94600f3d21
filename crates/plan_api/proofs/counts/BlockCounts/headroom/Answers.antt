use Rattle.std.proofs.Common.{refl}
use Rattle.plan_api.specs.Counting.{session_counts}
use Rattle.plan_api.proofs.counts.BlockCounts.headroom.Goals as goal

pub returns : goal.returns
returns c = c.headroom_for.ensures (session_counts c.args.self.now) refl
