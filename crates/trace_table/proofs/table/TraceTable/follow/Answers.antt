use Rattle.std.proofs.Common.{◌∙◌, refl, sym, ap, subst}
use Rattle.trace_words.specs.declared.share.Share.{Share}
use Rattle.trace_words.specs.Steps.{AsksFor}
use Rattle.trace_table.specs.Seats.{Follows, TakesBlockIfNeeded}
use Rattle.trace_table.proofs.SeatShares.{share-is, seat-same, seat-learnt, looks-learnt, room-learnt, block-of-room, needed-not}
use Rattle.trace_table.proofs.FieldScans.{follows-known}
use Rattle.trace_table.proofs.table.TraceTable.follow.Goals as goal

pub returns-then-is_marked-clause-seat : goal.returns-then-is_marked-clause-seat
returns-then-is_marked-clause-seat g c = seat-learnt c.args.self.now c.args.seat.now _ g.C.About.object g.C.About.object c.requires.seat c.is_marked.ensures.own refl refl refl refl
    (share-is _ _ (c.is_marked.ensures.marked c.if-is_marked.true))

pub returns-then-is_marked-clause-follows : goal.returns-then-is_marked-clause-follows
returns-then-is_marked-clause-follows g c = let v : Share = c.args.seat.now.seat.me.0 in
    let learnt = looks-learnt g.C.About.object g.C.About.object v _ (share-is _ _ (c.is_marked.ensures.marked c.if-is_marked.true)) in
    subst (λ t. Follows g.C.About.object t v c.is_marked.new.seat.me.0 c.args.out.now.items c.args.out.now.items) (sym c.requires.about.1)
    (follows-known g.C.About.object g.C.About.object v _ c.args.out.now.items c.requires.spent learnt.0 learnt.1)

pub claim_and_copy-requires-clause-seat : goal.claim_and_copy-requires-clause-seat
claim_and_copy-requires-clause-seat g c = seat-same c.args.self.now c.args.seat.now _ c.requires.seat c.is_marked.ensures.own refl refl refl refl (c.is_marked.ensures.clear c.if-is_marked.false)

pub claim_and_copy-requires-clause-spent : goal.claim_and_copy-requires-clause-spent
claim_and_copy-requires-clause-spent g c = ap (λ (u : Share). u.won) (share-is _ _ (c.is_marked.ensures.clear c.if-is_marked.false)) ∙ c.requires.spent

pub claim_and_copy-requires-clause-asks : goal.claim_and_copy-requires-clause-asks
claim_and_copy-requires-clause-asks g c = subst (λ (u : Share). AsksFor g.C.About.setup u g.C.About.object g.C.About.cause) (sym (share-is _ _ (c.is_marked.ensures.clear c.if-is_marked.false))) c.requires.asks

pub returns-clause-follows : goal.returns-clause-follows
returns-clause-follows g c = subst (λ (u : Share). Follows g.C.About.object c.claim_and_copy.result u c.claim_and_copy.new.seat.seat.me.0 c.args.out.now.items c.claim_and_copy.new.out.items)
    (share-is _ _ (c.is_marked.ensures.clear c.if-is_marked.false)) c.claim_and_copy.ensures.follows

pub returns-then-is_marked-clause-block : goal.returns-then-is_marked-clause-block
returns-then-is_marked-clause-block g c = let v : Share = c.args.seat.now.seat.me.0 in
    needed-not g.C.About.setup g.C.About.object v _ (block-of-room v _ (room-learnt g.C.About.object g.C.About.object v _ (share-is _ _ (c.is_marked.ensures.marked c.if-is_marked.true))))

pub returns-clause-block : goal.returns-clause-block
returns-clause-block g c = subst (λ (u : Share). TakesBlockIfNeeded g.C.About.setup g.C.About.object u c.claim_and_copy.new.seat.seat.me.0)
    (share-is _ _ (c.is_marked.ensures.clear c.if-is_marked.false)) c.claim_and_copy.ensures.block
