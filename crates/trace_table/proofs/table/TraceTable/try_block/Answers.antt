use Rattle.std.proofs.Common.{◌≡◌, ℕ, ◌+◌, ◌<◌, refl, sym, ap, ◌∙◌, subst, arith}
use Rattle.object_model.specs.Times.{times}
use Rattle.heap_layout.specs.Zones.{block_start}
use Rattle.trace_core.specs.Setups.{Setup, blocks}
use Rattle.trace_words.specs.declared.share.Share.{Share}
use Rattle.trace_words.specs.Shares.{sees_busy, takes_after_full}
use Rattle.trace_table.specs.Seats.{setup_at}
use Rattle.trace_table.proofs.SeatShares.{share-is, seat-on, seat-taken, room-busy, looks-taken, seen-more}
use Rattle.trace_table.proofs.table.TraceTable.try_block.Goals as goal

pub returns-then-word-ne0-clause-seat : goal.returns-then-word-ne0-clause-seat
returns-then-word-ne0-clause-seat g c = let b : ℕ = g.C.About.index in
    let is = share-is _ _ (c.look_at_block-word.ensures.block.1 c.if-word-ne0.true) in let v : Share = c.args.seat.now.seat.me.0 in
    let same : b ≡ c.args.block = c.requires.about.1 in let at : c.args.seat.now.next_block ≡ c.args.block = c.requires.block.1 in
    seat-on c.args.self.now c.args.seat.now _ c.requires.seat c.look_at_block-word.ensures.own refl refl refl (room-busy b v _ is)
    (λ k below. seen-more b v _ is (λ j l. c.requires.seat.seen j (omega arith)) k (omega arith))
    (let inside : c.args.block < blocks (setup_at c.args.self.now) = subst (λ (q : Setup). c.args.block < blocks q) (sym c.requires.about.0) c.requires.block.0 in omega arith)

pub take_block-met-requires-clause-full : goal.take_block-met-requires-clause-full
take_block-met-requires-clause-full g c = λ b has. (let same = share-is _ _ (c.look_at_block-word.ensures.block.0 c.if-word-ne0.false) in
    let front : c.look_at_block-word.new.seat.me.0.front ≡ c.args.seat.now.front = ap (λ (v : Share). v.front) same ∙ sym c.requires.seat.front in
    let limit : c.look_at_block-word.new.seat.me.0.limit ≡ c.args.seat.now.limit = ap (λ (v : Share). v.limit) same ∙ sym c.requires.seat.limit in record {
      limit = limit ∙ c.requires.seat.filling b (subst (λ (v : Share). 0 < times b v.filling) same has) ∙ ap (λ (q : Setup). block_start (blocks q) b + 4096) c.requires.about.0;
      words = c.args.words;
      small = c.requires.few;
      tight = (let a = c.requires.tight in omega arith);
    })

pub returns-then-met-ne0-clause-seat : goal.returns-then-met-ne0-clause-seat
returns-then-met-ne0-clause-seat g c = let b : ℕ = g.C.About.index in let v : Share = c.args.seat.now.seat.me.0 in
    let first = share-is _ _ (c.look_at_block-word.ensures.block.0 c.if-word-ne0.false) in
    let is = share-is _ _ (c.take_block-met.ensures.taken.1 c.if-met-ne0.true) ∙ ap (sees_busy b) first in
    let same : b ≡ c.args.block = c.requires.about.1 in let at : c.args.seat.now.next_block ≡ c.args.block = c.requires.block.1 in
    seat-on c.args.self.now c.args.seat.now _ c.requires.seat (c.take_block-met.ensures.own ∙ c.look_at_block-word.ensures.own) refl refl refl (room-busy b v _ is)
    (λ k below. seen-more b v _ is (λ j l. c.requires.seat.seen j (omega arith)) k (omega arith))
    (let inside : c.args.block < blocks (setup_at c.args.self.now) = subst (λ (q : Setup). c.args.block < blocks q) (sym c.requires.about.0) c.requires.block.0 in omega arith)

pub returns-clause-seat : goal.returns-clause-seat
returns-clause-seat g c = let b : ℕ = g.C.About.index in let v : Share = c.args.seat.now.seat.me.0 in let s = c.requires.seat in let n : ℕ = blocks (setup_at c.args.self.now) in
    let first = share-is _ _ (c.look_at_block-word.ensures.block.0 c.if-word-ne0.false) in
    let is = share-is _ _ (c.take_block-met.ensures.taken.0 c.if-met-ne0.false) ∙ ap (takes_after_full g.C.About.setup b) first in
    let same : b ≡ c.args.block = c.requires.about.1 in
    let size : blocks g.C.About.setup ≡ n = ap (λ (q : Setup). blocks q) (sym c.requires.about.0) in
    let start : c.address-seat.result ≡ block_start n b = (let a = c.address-seat.ensures in let l = c.requires.table.layout in omega arith) in
    let begins : block_start (blocks g.C.About.setup) b ≡ block_start n b = ap (λ m. block_start m b) size in
    seat-taken c.args.self.now c.args.seat.now _ b (let a = c.requires.block.0 in omega arith) s (c.take_block-met.ensures.own ∙ c.look_at_block-word.ensures.own) refl refl
    start (ap (λ m. m + 4096) start) (ap (λ (u : Share). u.parts) is) (ap (λ (u : Share). u.worker) is) (ap (λ (u : Share). u.front) is ∙ begins) (ap (λ (u : Share). u.limit) is ∙ ap (λ m. m + 4096) begins)
    (ap (λ (u : Share). u.filling) is) (ap (λ (u : Share). u.busy) is)

pub returns-clause-looks : goal.returns-clause-looks
returns-clause-looks g c = looks-taken g.C.About.setup g.C.About.index c.args.seat.now.seat.me.0 _ (share-is _ _ (c.take_block-met.ensures.taken.0 c.if-met-ne0.false)
    ∙ ap (takes_after_full g.C.About.setup g.C.About.index) (share-is _ _ (c.look_at_block-word.ensures.block.0 c.if-word-ne0.false)))
