use Rattle.std.proofs.Common.{◌≡◌, ℕ, ◌<◌, false, refl, sym, ap, ◌∙◌, subst, arith}
use Rattle.object_model.specs.Objects.{IsHeld}
use Rattle.object_model.specs.Times.{times}
use Rattle.object_model.proofs.ObjectReads.{ends_in_row}
use Rattle.trace_core.specs.Setups.{Setup, TraceMayBegin, size, refs, stays_old}
use Rattle.trace_words.specs.declared.share.Share.{Share}
use Rattle.trace_words.specs.Shares.{learns}
use Rattle.trace_table.proofs.SeatShares.{share-is, seat-on, room-learnt, room-here, block-of-room, looks-learnt, wins-here, young-by}
use Rattle.trace_table.proofs.table.TraceTable.win_in_place.Goals as goal

pub returns-then-met-word-clause-seat : goal.returns-then-met-word-clause-seat
returns-then-met-word-clause-seat g c = let x : ℕ = g.C.About.object in
    let is = share-is _ _ (c.claim_in_place-met.ensures.claimed.1 c.if-met-word.true).1 in
    seat-on c.args.self.now c.args.seat.now _ c.requires.seat c.claim_in_place-met.ensures.own refl refl refl (room-learnt x _ c.args.seat.now.seat.me.0 _ is)
    (λ k below. subst (λ (u : Share). 0 < times k u.busy) (sym is) (c.requires.seat.seen k below)) c.requires.seat.next

pub returns-then-met-word-clause-claims : goal.returns-then-met-word-clause-claims
returns-then-met-word-clause-claims g c = let x : ℕ = g.C.About.object in
    let is = share-is _ _ (c.claim_in_place-met.ensures.claimed.1 c.if-met-word.true).1 in
    let learnt = looks-learnt x c.target_of.result c.args.seat.now.seat.me.0 _ (is ∙ ap (λ t. learns x t c.args.seat.now.seat.me.0) (sym c.target_of.ensures)) in
    (learnt.0, learnt.1, young-by g.C.About.setup x c.args.word c.requires.may.before c.requires.may.young)

pub returns-clause-seat : goal.returns-clause-seat
returns-clause-seat g c = let x : ℕ = g.C.About.object in
    let is = share-is _ _ (c.claim_in_place-met.ensures.claimed.0 c.if-met-word.false) in
    seat-on c.args.self.now c.args.seat.now _ c.requires.seat c.claim_in_place-met.ensures.own refl refl refl (room-here g.C.About.setup x g.C.About.cause c.args.seat.now.seat.me.0 _ is)
    (λ k below. subst (λ (u : Share). 0 < times k u.busy) (sym is) (c.requires.seat.seen k below)) c.requires.seat.next

pub returns-clause-claims : goal.returns-clause-claims
returns-clause-claims g c = let p : Setup = g.C.About.setup in let x : ℕ = g.C.About.object in
    let ready : TraceMayBegin p = subst TraceMayBegin c.requires.about.0 c.requires.table.ready in
    wins-here p x g.C.About.cause c.args.seat.now.seat.me.0 _ _ (share-is _ _ (c.claim_in_place-met.ensures.claimed.0 c.if-met-word.false)) c.requires.spent
    c.requires.about.1 c.requires.about.1 c.requires.stays (let object : c.args.x ≡ x = c.requires.about.1 in let words : c.args.words ≡ size p x = c.requires.shape.0 in
    let end = ends_in_row p.before ready.lawful.order x c.requires.may.held in let from = c.requires.may.held.address.from in record {
      held = subst (IsHeld p.before) (sym object) c.requires.may.held;
      young = subst (λ y. stays_old p y ≡ false) (sym object) (young-by p x c.args.word c.requires.may.before c.requires.may.young);
      size = words ∙ ap (size p) (sym object);
      refs = c.requires.shape.1 ∙ ap (refs p) (sym object);
      start = omega arith;
      within = omega arith;
    })

pub returns-then-met-word-clause-block : goal.returns-then-met-word-clause-block
returns-then-met-word-clause-block g c = block-of-room c.args.seat.now.seat.me.0 _ (room-learnt g.C.About.object _ c.args.seat.now.seat.me.0 _ (share-is _ _ (c.claim_in_place-met.ensures.claimed.1 c.if-met-word.true).1))

pub returns-clause-block : goal.returns-clause-block
returns-clause-block g c = block-of-room c.args.seat.now.seat.me.0 _ (room-here g.C.About.setup g.C.About.object g.C.About.cause c.args.seat.now.seat.me.0 _ (share-is _ _ (c.claim_in_place-met.ensures.claimed.0 c.if-met-word.false)))
