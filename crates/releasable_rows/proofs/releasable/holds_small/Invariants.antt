use Rattle.object_model.specs.Objects.{state_over}
use Rattle.releasable_rows.specs.BlockTests.{HoldsSmall}
use Rattle.releasable_rows.proofs.TestedBlocks.{EndsLast}
use Rattle.releasable_rows.proofs.releasable.holds_small.Given as goal

abbrev pub invariant-loop-offset : goal.invariant-loop-offset
invariant-loop-offset g l = record {
  holds : HoldsSmall (state_over (g.W.Words.words l.words) l.layout 0 0) l.block l.offset l.end;
  tight : EndsLast (state_over (g.W.Words.words l.words) l.layout 0 0) l.block l.offset l.end;
}
