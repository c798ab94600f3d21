use Rattle.std.proofs.Common.{◌∙◌, refl, arith}
use Rattle.trace_table.specs.Seats.{setup_at}
use Rattle.trace_table.proofs.Copyings.{copied-right, copied-parts, copies-given, seat-kept}
use Rattle.trace_table.proofs.table.TraceTable.copy.Goals as goal

pub token-requires-clause-own : goal.token-requires-clause-own
token-requires-clause-own c = (c.copy_object.ensures.own ∙ c.requires.seat.table, (let same = copied-parts c.args.won.object _ _ c.copy_object.ensures.share in let live = c.requires.won.live in omega arith))

pub token-requires-clause-right : goal.token-requires-clause-right
token-requires-clause-right c = let is = copied-right (setup_at c.args.self.now) _ _ c.args.won.object c.args.won.target c.copy_object.ensures.share c.requires.won.target in (is.1, is.2)

pub returns-clause-seat : goal.returns-clause-seat
returns-clause-seat c = let by = copies-given c.args.won.object _ _ _ c.copy_object.ensures.share c.token.ensures.own.1 in
    seat-kept c.args.self.now c.args.seat.now _ c.requires.seat (c.token.ensures.own.0 ∙ c.copy_object.ensures.own) refl refl refl refl by.room by.keeps

pub returns-clause-copies : goal.returns-clause-copies
returns-clause-copies c = copies-given c.args.won.object _ _ _ c.copy_object.ensures.share c.token.ensures.own.1
