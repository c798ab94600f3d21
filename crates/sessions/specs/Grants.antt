-- How many Free blocks a plan holds back, and so which may be granted: by the counts of a heap's
-- blocks.
use Rattle.std.specs.Prelude.{ℕ, ◌+◌, ◌-◌, ◌/◌, ◌<◌, ◌≤◌, List, [], ◌∷◌, map}
use Rattle.sessions.specs.Plans.{Plan, NoGc, MarkSweep, SemiSpace, GenCopy, Immix, StickyImmix, Reserve, Nothing}
use Rattle.sessions.specs.Plans.{Copies, Headroom, rules_of}

-- how many blocks a heap has, how many of them are Free, and how many belong to large runs
pub record BlockCounts : Type 0 where
  pub blocks : ℕ
  pub free : ℕ
  pub large : ℕ

-- the blocks that belong to no large run, and how many of those are in use
abbrev pub total_in : BlockCounts → ℕ
total_in c = c.blocks - c.large

abbrev pub used_in : BlockCounts → ℕ
used_in c = total_in c - c.free

-- one block for each 32, rounded up
abbrev pub headroom_in : BlockCounts → ℕ
headroom_in c = (c.blocks + 31) / 32

-- how many Free blocks are held back
abbrev pub reserve_in : Reserve → BlockCounts → ℕ
reserve_in Nothing c = 0
reserve_in Copies c = used_in c
reserve_in Headroom c = headroom_in c

-- how many more are held back for each block that is granted
abbrev pub reserve_per_block : Reserve → ℕ
reserve_per_block Nothing = 0
reserve_per_block Copies = 1
reserve_per_block Headroom = 0

-- as many Free blocks are left as are held back
abbrev pub HoldsReserve : Reserve → BlockCounts → Type 0
HoldsReserve r c = reserve_in r c ≤ c.free

-- a Free block may be granted: the reserve holds after it
abbrev pub IsGrantable : Reserve → BlockCounts → Type 0
IsGrantable r c = reserve_in r c + reserve_per_block r < c.free

-- how many Free blocks may be granted one after another
abbrev pub allowance_in : Reserve → BlockCounts → ℕ
allowance_in r c = (c.free - reserve_in r c) / (1 + reserve_per_block r)

-- n Free blocks may be granted to a large run
abbrev pub IsRunGrantable : Reserve → BlockCounts → ℕ → Type 0
IsRunGrantable r c n = reserve_in r c + n ≤ c.free

-- the counts after n Free blocks were taken for small and medium objects
abbrev pub after_taking : BlockCounts → ℕ → BlockCounts
after_taking c n = record c { free = c.free - n }

-- so many blocks, of which so many are Free and so many belong to large runs
abbrev pub counts_with : ℕ → ℕ → ℕ → BlockCounts
counts_with blocks free large = record { blocks = blocks; free = free; large = large }

abbrev pub all_plans : List Plan
all_plans = NoGc ∷ MarkSweep ∷ SemiSpace ∷ GenCopy ∷ Immix ∷ StickyImmix ∷ []

-- the allowances of the plans, in their order, at some counts
abbrev pub allowances : List BlockCounts → List (List ℕ)
allowances counts = map (λ p. map (allowance_in (rules_of p).reserve) counts) all_plans
