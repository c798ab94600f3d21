use Rattle.std.proofs.Common.{refl, subst}
use Rattle.trace_words.specs.declared.share.Share.{Share}
use Rattle.trace_table.specs.declared.tokens.Found.{Found}
use Rattle.trace_table.specs.Seats.{Finds, TakesBlockIfNeeded}
use Rattle.trace_table.proofs.SeatShares.{share-is, seat-same, seat-learnt, looks-learnt, room-learnt, block-of-room, needed-not}
use Rattle.trace_table.proofs.table.TraceTable.claim_for.Goals as goal

pub win-requires-clause-seat : goal.win-requires-clause-seat
win-requires-clause-seat g c = seat-same c.args.self.now c.args.seat.now _ c.requires.seat c.find.ensures.own refl refl refl refl (subst (λ (f : Found). Finds g.C.About.setup g.C.About.object c.args.seat.now.seat.me f c.find.new.seat.me) c.in-Waits.is c.find.ensures.finds).0

pub returns-in-Old-clause-seat : goal.returns-in-Old-clause-seat
returns-in-Old-clause-seat g c = seat-learnt c.args.self.now c.args.seat.now _ g.C.About.object g.C.About.object c.requires.seat c.find.ensures.own refl refl refl refl (share-is _ _ (subst (λ (f : Found). Finds g.C.About.setup g.C.About.object c.args.seat.now.seat.me f c.find.new.seat.me) c.in-Old.is c.find.ensures.finds).1)

pub returns-in-Seen-clause-seat : goal.returns-in-Seen-clause-seat
returns-in-Seen-clause-seat g c = seat-learnt c.args.self.now c.args.seat.now _ g.C.About.object _ c.requires.seat c.find.ensures.own refl refl refl refl (share-is _ _ (subst (λ (f : Found). Finds g.C.About.setup g.C.About.object c.args.seat.now.seat.me f c.find.new.seat.me) c.in-Seen.is c.find.ensures.finds).1)

pub returns-in-Old-clause-claims : goal.returns-in-Old-clause-claims
returns-in-Old-clause-claims g c = let is = subst (λ (f : Found). Finds g.C.About.setup g.C.About.object c.args.seat.now.seat.me f c.find.new.seat.me) c.in-Old.is c.find.ensures.finds in
    let learnt = looks-learnt g.C.About.object g.C.About.object c.args.seat.now.seat.me.0 _ (share-is _ _ is.1) in (learnt.0, learnt.1, is.0)

pub returns-in-Seen-clause-claims : goal.returns-in-Seen-clause-claims
returns-in-Seen-clause-claims g c = let is = subst (λ (f : Found). Finds g.C.About.setup g.C.About.object c.args.seat.now.seat.me f c.find.new.seat.me) c.in-Seen.is c.find.ensures.finds in
    let learnt = looks-learnt g.C.About.object _ c.args.seat.now.seat.me.0 _ (share-is _ _ is.1) in (learnt.0, learnt.1, is.0)

pub returns-in-Old-clause-block : goal.returns-in-Old-clause-block
returns-in-Old-clause-block g c = needed-not g.C.About.setup g.C.About.object c.args.seat.now.seat.me.0 _ (block-of-room c.args.seat.now.seat.me.0 _
    (room-learnt g.C.About.object g.C.About.object c.args.seat.now.seat.me.0 _ (share-is _ _ (subst (λ (f : Found). Finds g.C.About.setup g.C.About.object c.args.seat.now.seat.me f c.find.new.seat.me) c.in-Old.is c.find.ensures.finds).1)))

pub returns-in-Seen-clause-block : goal.returns-in-Seen-clause-block
returns-in-Seen-clause-block g c = needed-not g.C.About.setup g.C.About.object c.args.seat.now.seat.me.0 _ (block-of-room c.args.seat.now.seat.me.0 _
    (room-learnt g.C.About.object _ c.args.seat.now.seat.me.0 _ (share-is _ _ (subst (λ (f : Found). Finds g.C.About.setup g.C.About.object c.args.seat.now.seat.me f c.find.new.seat.me) c.in-Seen.is c.find.ensures.finds).1)))

pub returns-in-Waits-clause-block : goal.returns-in-Waits-clause-block
returns-in-Waits-clause-block g c = subst (λ (u : Share). TakesBlockIfNeeded g.C.About.setup g.C.About.object u c.win.new.seat.seat.me.0)
    (share-is _ _ (subst (λ (f : Found). Finds g.C.About.setup g.C.About.object c.args.seat.now.seat.me f c.find.new.seat.me) c.in-Waits.is c.find.ensures.finds).0) c.win.ensures.block
