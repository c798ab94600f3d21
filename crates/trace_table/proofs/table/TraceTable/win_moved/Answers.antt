use Rattle.std.proofs.Common.{◌≡◌, ℕ, ◌+◌, ◌<◌, false, refl, sym, ap, ◌∙◌, subst, arith}
use Rattle.object_model.specs.Objects.{IsHeld}
use Rattle.object_model.specs.Times.{times}
use Rattle.trace_core.specs.Setups.{Setup, blocks, size, refs, stays_old}
use Rattle.trace_words.specs.declared.share.Share.{Share}
use Rattle.trace_words.specs.Shares.{learns}
use Rattle.trace_table.specs.Seats.{setup_at}
use Rattle.trace_table.proofs.SeatShares.{share-is, seat-on, room-learnt, block-of-room, looks-learnt, wins-moved, young-by}
use Rattle.trace_table.proofs.table.TraceTable.win_moved.Goals as goal

pub returns-then-met-word-clause-seat : goal.returns-then-met-word-clause-seat
returns-then-met-word-clause-seat g c = let x : ℕ = g.C.About.object in
    let is = share-is _ _ (c.claim_and_move-met.ensures.claimed.1 c.if-met-word.true).1 in
    seat-on c.args.self.now c.args.seat.now _ c.requires.seat c.claim_and_move-met.ensures.own refl refl refl (room-learnt x _ c.args.seat.now.seat.me.0 _ is)
    (λ k below. subst (λ (u : Share). 0 < times k u.busy) (sym is) (c.requires.seat.seen k below)) c.requires.seat.next

pub returns-then-met-word-clause-claims : goal.returns-then-met-word-clause-claims
returns-then-met-word-clause-claims g c = let x : ℕ = g.C.About.object in
    let is = share-is _ _ (c.claim_and_move-met.ensures.claimed.1 c.if-met-word.true).1 in
    let learnt = looks-learnt x c.target_of.result c.args.seat.now.seat.me.0 _ (is ∙ ap (λ t. learns x t c.args.seat.now.seat.me.0) (sym c.target_of.ensures)) in
    (learnt.0, learnt.1, young-by g.C.About.setup x c.args.word c.requires.may.before c.requires.may.young)

pub returns-clause-seat : goal.returns-clause-seat
returns-clause-seat g c = let p : Setup = g.C.About.setup in let x : ℕ = g.C.About.object in let s = c.requires.seat in
    let is = share-is _ _ (c.claim_and_move-met.ensures.claimed.0 c.if-met-word.false) in
    let words : c.args.words ≡ size p x = c.requires.shape.0 in let fits = c.requires.room.fits in let front = s.front in let limit = s.limit in record {
      table = c.claim_and_move-met.ensures.own ∙ s.table;
      live = subst (λ (u : Share). 0 < u.parts) (sym is) s.live;
      worker = s.worker ∙ sym (ap (λ (u : Share). u.worker) is);
      some = s.some;
      few = s.few;
      front = ap (λ n. n + c.args.words) front ∙ ap (λ n. c.args.seat.now.seat.me.0.front + n) words ∙ sym (ap (λ (u : Share). u.front) is);
      limit = limit ∙ sym (ap (λ (u : Share). u.limit) is);
      order = omega arith;
      from = λ below. (let a = s.from (omega arith) in omega arith);
      within = s.within;
      filling = λ k has. s.filling k (subst (λ (u : Share). 0 < times k u.filling) is has);
      seen = λ k below. subst (λ (u : Share). 0 < times k u.busy) (sym is) (s.seen k below);
      next = s.next;
    }

pub returns-clause-claims : goal.returns-clause-claims
returns-clause-claims g c = let p : Setup = g.C.About.setup in let x : ℕ = g.C.About.object in let s = c.requires.seat in
    let same : blocks (setup_at c.args.self.now) ≡ blocks p = ap (λ (q : Setup). blocks q) c.requires.about.0 in
    wins-moved p x g.C.About.cause c.args.seat.now.seat.me.0 _ _ (share-is _ _ (c.claim_and_move-met.ensures.claimed.0 c.if-met-word.false)) c.requires.spent
    c.requires.about.1 s.front c.requires.room (let fits = c.requires.room.fits in let front = s.front in let limit = s.limit in let within = s.within in let words : c.args.words ≡ size p x = c.requires.shape.0 in
    let object : c.args.x ≡ x = c.requires.about.1 in record {
      held = subst (IsHeld p.before) (sym object) c.requires.may.held;
      young = subst (λ y. stays_old p y ≡ false) (sym object) (young-by p x c.args.word c.requires.may.before c.requires.may.young);
      size = words ∙ ap (size p) (sym object);
      refs = c.requires.shape.1 ∙ ap (refs p) (sym object);
      start = (let least : 0 < size p x = omega arith in let a = s.from (omega arith) in omega arith);
      within = omega arith;
    })

pub returns-then-met-word-clause-block : goal.returns-then-met-word-clause-block
returns-then-met-word-clause-block g c = block-of-room c.args.seat.now.seat.me.0 _ (room-learnt g.C.About.object _ c.args.seat.now.seat.me.0 _ (share-is _ _ (c.claim_and_move-met.ensures.claimed.1 c.if-met-word.true).1))

pub returns-clause-block : goal.returns-clause-block
returns-clause-block g c = let is = share-is _ _ (c.claim_and_move-met.ensures.claimed.0 c.if-met-word.false) in
    (ap (λ (u : Share). u.limit) is, ap (λ (u : Share). u.filling) is)
