use Rattle.std.proofs.Common.{ℕ, ◌*◌}
use Rattle.object_model.specs.Objects.{HeapState}
use Rattle.block_sweeps.specs.Touches.{AreBegunFrom, AreStarts}
use Rattle.block_sweeps.proofs.lines.begun_of.Given as goal

abbrev pub invariant-loop-line : goal.invariant-loop-line
invariant-loop-line l = (s : HeapState) (k index : ℕ) → AreStarts s k index l.starts → AreBegunFrom s k (4 * index) l.line l.begun
