use Rattle.trace_table.proofs.SeatShares.{looks-trans}
use Rattle.trace_table.proofs.table.TraceTable.has_room.Goals as goal

pub returns-then-try_block-clause-looks : goal.returns-then-try_block-clause-looks
returns-then-try_block-clause-looks c = looks-trans _ _ _ c.loop-block.invariant.looks c.try_block.ensures.looks

pub loop-block-preserved : goal.loop-block-preserved
loop-block-preserved c = let next = c.try_block.ensures.next c.if-try_block.false in record {
  seat = c.try_block.ensures.seat;
  looks = looks-trans _ _ _ c.loop-block.invariant.looks c.try_block.ensures.looks;
  next = next.0;
  tight = next.1;
}
