use Rattle.std.proofs.Common.{refl, sym, subst}
use Rattle.trace_words.specs.declared.share.Share.{Share}
use Rattle.trace_table.specs.Seats.{Asks}
use Rattle.trace_table.proofs.SeatShares.{share-is, asks-known, room-asked}
use Rattle.trace_table.proofs.Copyings.{seat-kept}
use Rattle.trace_table.proofs.table.TraceTable.ask_known.Goals as goal

pub ask-requires-clause-knows : goal.ask-requires-clause-knows
ask-requires-clause-knows g c = record { live = c.requires.seat.live; target = c.requires.knows }

pub returns-clause-seat : goal.returns-clause-seat
returns-clause-seat g c = let v : Share = c.args.seat.now.seat.me.0 in let is = share-is _ _ c.ask.ensures.share in
    seat-kept c.args.self.now c.args.seat.now _ c.requires.seat c.ask.ensures.own refl refl refl refl (room-asked g.C.About.object g.C.About.target v _ is) (asks-known g.C.About.object g.C.About.target v _ is).keeps

pub returns-clause-asks : goal.returns-clause-asks
returns-clause-asks g c = subst (λ x. Asks x c.args.seat.now.seat.me.0 c.ask.new.seat.me.0) (sym c.requires.about.1) (asks-known g.C.About.object g.C.About.target _ _ (share-is _ _ c.ask.ensures.share))

pub returns-clause-room : goal.returns-clause-room
returns-clause-room g c = room-asked g.C.About.object g.C.About.target c.args.seat.now.seat.me.0 _ (share-is _ _ c.ask.ensures.share)
