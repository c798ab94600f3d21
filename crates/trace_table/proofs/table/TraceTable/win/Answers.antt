use Rattle.std.proofs.Common.{◌≡◌, ◌+◌, true, true≢false, refl, sym, ap, ◌∙◌, subst, arith}
use Rattle.trace_core.specs.Setups.{Setup, size, refs, may_be_moved}
use Rattle.trace_words.specs.declared.share.Share.{Share}
use Rattle.trace_words.specs.Steps.{SawNoneFree}
use Rattle.trace_table.specs.Seats.{setup_at, Looks, SameBlock}
use Rattle.trace_table.proofs.ObjectReads.{copies-some}
use Rattle.trace_table.proofs.SeatShares.{share-is, seat-same, claim-on, claims-after, block-trans, needed-not}
use Rattle.trace_table.proofs.table.TraceTable.win.Goals as goal

pub win_in_place-requires-clause-seat : goal.win_in_place-requires-clause-seat
win_in_place-requires-clause-seat g c = seat-same c.args.self.now c.args.seat.now _ c.requires.seat (c.may_move-moves.ensures.own.0 ∙ c.shape-shape.ensures.own.0) refl refl refl refl (c.may_move-moves.ensures.own.1 ∙ c.shape-shape.ensures.own.1)

pub has_room-requires-clause-seat : goal.has_room-requires-clause-seat
has_room-requires-clause-seat g c = seat-same c.args.self.now c.args.seat.now _ c.requires.seat (c.may_move-moves.ensures.own.0 ∙ c.shape-shape.ensures.own.0) refl refl refl refl (c.may_move-moves.ensures.own.1 ∙ c.shape-shape.ensures.own.1)

pub has_room-requires-clause-copies : goal.has_room-requires-clause-copies
has_room-requires-clause-copies g c = let p : Setup = setup_at c.args.self.now in
    let moves : may_be_moved p g.C.About.object ≡ true = subst (λ (q : Setup). may_be_moved q g.C.About.object ≡ true) (sym c.requires.about.0) (sym c.may_move-moves.ensures.moves ∙ c.if-not-moves.false) in
    copies-some p c.requires.table.ready g.C.About.object moves

pub win_moved-requires-clause-may : goal.win_moved-requires-clause-may
win_moved-requires-clause-may g c = let same = share-is _ _ (c.may_move-moves.ensures.own.1 ∙ c.shape-shape.ensures.own.1) in
    claim-on g.C.About.setup c.args.seat.now.seat.me.0 _ g.C.About.object g.C.About.cause c.args.word (subst (λ (u : Share). Looks u c.has_room.new.seat.seat.me.0) same c.has_room.ensures.looks) c.requires.may

pub returns-then-has_room-clause-claims : goal.returns-then-has_room-clause-claims
returns-then-has_room-clause-claims g c = let same = share-is _ _ (c.may_move-moves.ensures.own.1 ∙ c.shape-shape.ensures.own.1) in
    claims-after g.C.About.setup g.C.About.object g.C.About.cause c.args.seat.now.seat.me.0 _ _ c.win_moved.result (subst (λ (u : Share). Looks u c.has_room.new.seat.seat.me.0) same c.has_room.ensures.looks) c.win_moved.ensures.claims

pub win_in_place-requires-2-clause-may : goal.win_in_place-requires-2-clause-may
win_in_place-requires-2-clause-may g c = let same = share-is _ _ (c.may_move-moves.ensures.own.1 ∙ c.shape-shape.ensures.own.1) in
    claim-on g.C.About.setup c.args.seat.now.seat.me.0 _ g.C.About.object g.C.About.cause c.args.word (subst (λ (u : Share). Looks u c.has_room.new.seat.seat.me.0) same c.has_room.ensures.looks) c.requires.may

pub win_in_place-requires-2-clause-stays : goal.win_in_place-requires-2-clause-stays
win_in_place-requires-2-clause-stays g c = λ moves. (let none = c.has_room.ensures.none c.if-has_room.false in let s = c.has_room.ensures.seat in
    let front = s.front in let limit = s.limit in let words : c.size_words-words.result ≡ size g.C.About.setup g.C.About.object = c.size_words-words.ensures ∙ ap (λ n. 3 + n + c.shape-shape.result.nums) c.shape-shape.ensures.shape.0
    ∙ ap (λ n. 3 + refs g.C.About.setup g.C.About.object + n) c.shape-shape.ensures.shape.1 in record {
      tight = omega arith;
      none = subst (λ (q : Setup). SawNoneFree q c.has_room.new.seat.seat.me.0) c.requires.about.0 none.1;
    })

pub returns-clause-claims : goal.returns-clause-claims
returns-clause-claims g c = let same = share-is _ _ (c.may_move-moves.ensures.own.1 ∙ c.shape-shape.ensures.own.1) in
    claims-after g.C.About.setup g.C.About.object g.C.About.cause c.args.seat.now.seat.me.0 _ _ c.win_in_place-2.result (subst (λ (u : Share). Looks u c.has_room.new.seat.seat.me.0) same c.has_room.ensures.looks) c.win_in_place-2.ensures.claims

pub returns-then-not-moves-clause-block : goal.returns-then-not-moves-clause-block
returns-then-not-moves-clause-block g c = let same = share-is _ _ (c.may_move-moves.ensures.own.1 ∙ c.shape-shape.ensures.own.1) in
    needed-not g.C.About.setup g.C.About.object c.args.seat.now.seat.me.0 _ (subst (λ (u : Share). SameBlock u c.win_in_place.new.seat.seat.me.0) same c.win_in_place.ensures.block)

pub returns-then-has_room-clause-block : goal.returns-then-has_room-clause-block
returns-then-has_room-clause-block g c = let p : Setup = g.C.About.setup in let x = g.C.About.object in let v : Share = c.args.seat.now.seat.me.0 in
    let same = share-is _ _ (c.may_move-moves.ensures.own.1 ∙ c.shape-shape.ensures.own.1) in let s = c.requires.seat in
    let words : c.size_words-words.result ≡ size p x = c.size_words-words.ensures ∙ ap (λ n. 3 + n + c.shape-shape.result.nums) c.shape-shape.ensures.shape.0
    ∙ ap (λ n. 3 + refs p x + n) c.shape-shape.ensures.shape.1 in record {
      stays = λ stays. absurd (true≢false (sym (sym c.may_move-moves.ensures.moves ∙ c.if-not-moves.false) ∙ stays));
      fits = λ fits. block-trans v c.has_room.new.seat.seat.me.0 c.win_moved.new.seat.seat.me.0 (subst (λ (u : Share). SameBlock u c.has_room.new.seat.seat.me.0) same
          (c.has_room.ensures.fits (let front = s.front in let limit = s.limit in omega arith))) c.win_moved.ensures.block;
    }

pub returns-clause-block : goal.returns-clause-block
returns-clause-block g c = let p : Setup = g.C.About.setup in let x = g.C.About.object in let v : Share = c.args.seat.now.seat.me.0 in
    let same = share-is _ _ (c.may_move-moves.ensures.own.1 ∙ c.shape-shape.ensures.own.1) in let s = c.requires.seat in
    let words : c.size_words-words.result ≡ size p x = c.size_words-words.ensures ∙ ap (λ n. 3 + n + c.shape-shape.result.nums) c.shape-shape.ensures.shape.0
    ∙ ap (λ n. 3 + refs p x + n) c.shape-shape.ensures.shape.1 in record {
      stays = λ stays. absurd (true≢false (sym (sym c.may_move-moves.ensures.moves ∙ c.if-not-moves.false) ∙ stays));
      fits = λ fits. block-trans v c.has_room.new.seat.seat.me.0 c.win_in_place-2.new.seat.seat.me.0 (subst (λ (u : Share). SameBlock u c.has_room.new.seat.seat.me.0) same
          (c.has_room.ensures.fits (let front = s.front in let limit = s.limit in omega arith))) c.win_in_place-2.ensures.block;
    }
