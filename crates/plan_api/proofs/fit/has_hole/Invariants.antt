use Rattle.std.proofs.Common.{ℕ, ◌<◌}
use Rattle.object_model.specs.Heaps.{heap_state}
use Rattle.sessions.specs.Fitting.{HasHole}
use Rattle.plan_api.proofs.fit.has_hole.Given as goal

abbrev pub invariant-loop-block : goal.invariant-loop-block
invariant-loop-block l = (k at : ℕ) → k < l.block → HasHole l.fill (heap_state l.heap) k at l.size → ⊥
