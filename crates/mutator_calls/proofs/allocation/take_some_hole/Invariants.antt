use Rattle.std.proofs.Common.{◌≡◌, ℕ, ◌<◌}
use Rattle.mutator_calls.specs.Effects.{nothing}
use Rattle.mutator_calls.proofs.allocation.take_some_hole.Given as goal

abbrev pub invariant-loop-block : goal.invariant-loop-block
invariant-loop-block g l = g.S.MutatorSteps.is_ready l.seat × (l.block-end ≡ (g.S.AllocationSteps.books l.initial.seat).blocks)
    × g.S.MutatorSteps.makes_steps l.initial.seat nothing l.seat
    × ((k : ℕ) → k < l.block → g.S.AllocationSteps.has_no_room l.seat l.size k) × (g.S.AllocationSteps.books l.seat ≡ g.S.AllocationSteps.books l.initial.seat)
    × ((b : _) (n : ℕ) → g.S.AllocationSteps.offers_room l.seat b n → g.S.AllocationSteps.offers_room l.initial.seat b n)
    × ((j : ℕ) → g.S.AllocationSteps.has_no_room l.initial.seat l.size j → g.S.AllocationSteps.has_no_room l.seat l.size j)
    × ((j : ℕ) → g.S.AllocationSteps.is_used l.initial.seat j → g.S.AllocationSteps.is_used l.seat j)
    × g.S.AllocationSteps.is_full l.seat l.size
