use Rattle.std.proofs.Common.{◌∙◌}
use Rattle.trace_table.specs.Seats.{setup_at}
use Rattle.trace_table.proofs.SeatShares.{share-is}
use Rattle.trace_table.proofs.Copyings.{may-copy, copies-next}
use Rattle.trace_table.proofs.table.TraceTable.copy_words.Goals as goal

pub copy_step-requires-clause-may : goal.copy_step-requires-clause-may
copy_step-requires-clause-may c = may-copy (setup_at c.args.self.now) c.args.seat.now.me.0 c.args.won.now c.requires.won c.loop-k.k _ c.loop-k.invariant.share

pub loop-k-preserved : goal.loop-k-preserved
loop-k-preserved c = record {
  own = c.copy_step.ensures.own ∙ c.loop-k.invariant.own;
  share = copies-next c.args.won.now.object c.loop-k.k c.args.seat.now.me.0 _ _ c.loop-k.invariant.share (share-is _ _ c.copy_step.ensures.share);
}
