use Rattle.std.proofs.Common.{refl}
use Rattle.trace_table.proofs.SeatShares.{seat-same}
use Rattle.trace_table.proofs.table.TraceTable.look_at_copies.Goals as goal

pub returns-clause-seat : goal.returns-clause-seat
returns-clause-seat c = seat-same c.args.self.now c.args.seat.now _ c.requires.seat c.look_at_copies.ensures.own.0 refl refl refl refl c.look_at_copies.ensures.own.1
