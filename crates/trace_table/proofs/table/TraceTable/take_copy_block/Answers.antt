use Rattle.std.proofs.Common.{refl, arith}
use Rattle.trace_table.proofs.SeatShares.{looks-not, looks-trans, room-not, room-trans}
use Rattle.trace_table.proofs.table.TraceTable.take_copy_block.Goals as goal

pub loop-block-init : goal.loop-block-init
loop-block-init c = record { seat = c.requires.seat; looks = looks-not _ _ refl; room = room-not _; next = refl }

pub loop-block-preserved : goal.loop-block-preserved
loop-block-preserved c = let none = c.if-take_if_free.false in record {
  seat = c.take_if_free.ensures.seat;
  looks = looks-trans _ _ _ c.loop-block.invariant.looks (c.take_if_free.ensures.looks none);
  room = room-trans _ _ _ c.loop-block.invariant.room (c.take_if_free.ensures.room none);
  next = c.take_if_free.ensures.next.1 none;
}

pub returns-then-take_if_free-clause-takes : goal.returns-then-take_if_free-clause-takes
returns-then-take_if_free-clause-takes c = record {
  before = c.loop-block.seat.seat.me.0;
  looks = c.loop-block.invariant.looks;
  room = c.loop-block.invariant.room;
  taken = c.take_if_free.ensures.taken c.if-take_if_free.true;
  lowest = λ k below. c.take_if_free.ensures.seat.seen k (let next = c.take_if_free.ensures.next.0 c.if-take_if_free.true in omega arith);
}
