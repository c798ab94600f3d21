use Rattle.std.proofs.Common.{◌≡◌, ◌≢◌, ℕ, ◌+◌, ◌-◌, ◌/◌, ◌%◌, ◌<◌, length, vec_len, sym, ap, ◌∙◌, subst, arith}
use Rattle.std.specs.Int.{bit_at}
use Rattle.heap_layout.specs.Zones.{block_at, heap_of, first, PinBits}
use Rattle.object_model.specs.BitWords.{bit_word, bit_place}
use Rattle.object_model.specs.Objects.{word_at}
use Rattle.trace_core.specs.Setups.{Setup, blocks, size}
use Rattle.trace_core.specs.Runs.{IsRunOf}
use Rattle.trace_table.proofs.ObjectReads.{from-within, stays-from, moves-loose, pin-is, set-is}
use Rattle.trace_table.proofs.table.TraceTable.may_move.Goals as goal

pub index-leaves-requires : goal.index-leaves-requires
index-leaves-requires g c = let p : Setup = g.C.About.setup in let run : IsRunOf p c.args.self.now.run = subst (λ (q : Setup). IsRunOf q c.args.self.now.run) c.requires.about.0 c.requires.table.run in
    let block : c.block_of.result ≡ block_at (blocks p) g.C.About.object = c.block_of.ensures.block ∙ ap (λ n. block_at n c.args.x) (c.requires.table.layout ∙ ap (λ (q : Setup). blocks q) c.requires.about.0) ∙ ap (block_at (blocks p)) c.requires.about.1 in
    let within : c.block_of.result < length c.args.self.now.run.from.items = from-within p c.args.self.now.run run g.C.About.object c.requires.held c.block_of.result block in
    let many : vec_len c.args.self.now.run.from ≡ length c.args.self.now.run.from.items = c.args.self.now.run.from.ok.0 in omega arith

pub returns-then-not-leaves-clause-moves : goal.returns-then-not-leaves-clause-moves
returns-then-not-leaves-clause-moves g c = let p : Setup = g.C.About.setup in let run : IsRunOf p c.args.self.now.run = subst (λ (q : Setup). IsRunOf q c.args.self.now.run) c.requires.about.0 c.requires.table.run in
    let block : c.block_of.result ≡ block_at (blocks p) g.C.About.object = c.block_of.ensures.block ∙ ap (λ n. block_at n c.args.x) (c.requires.table.layout ∙ ap (λ (q : Setup). blocks q) c.requires.about.0) ∙ ap (block_at (blocks p)) c.requires.about.1 in
    sym (stays-from p c.args.self.now.run run g.C.About.object c.requires.held c.block_of.result c.index-leaves.result.now block c.index-leaves.ensures c.if-not-leaves.true)

pub returns-clause-moves : goal.returns-clause-moves
returns-clause-moves g c = let p : Setup = g.C.About.setup in let x : ℕ = g.C.About.object in let run : IsRunOf p c.args.self.now.run = subst (λ (q : Setup). IsRunOf q c.args.self.now.run) c.requires.about.0 c.requires.table.run in
    let size-same : c.args.self.now.layout.blocks ≡ blocks p = c.requires.table.layout ∙ ap (λ (q : Setup). blocks q) c.requires.about.0 in
    let block : c.block_of.result ≡ block_at (blocks p) x = c.block_of.ensures.block ∙ ap (λ n. block_at n c.args.x) size-same ∙ ap (block_at (blocks p)) c.requires.about.1 in
    let same : c.args.x ≡ x = c.requires.about.1 in
    let base : c.heap_base.result ≡ heap_of (blocks p) = c.heap_base.ensures ∙ ap heap_of size-same in
    let pins : c.pin_base.result ≡ first (blocks p) PinBits = c.pin_base.ensures ∙ ap (λ n. first n PinBits) size-same in
    let index : c.args.x - c.heap_base.result ≡ x - heap_of (blocks p) = ap (λ n. n - c.heap_base.result) same ∙ ap (λ n. x - n) base in
    let at : c.pin_base.result + (c.args.x - c.heap_base.result) / 64 ≡ bit_word (blocks p) PinBits x = ap (λ n. n + (c.args.x - c.heap_base.result) / 64) pins ∙ ap (λ n. first (blocks p) PinBits + n / 64) index in
    let place : (c.args.x - c.heap_base.result) % 64 ≡ bit_place (blocks p) x = ap (λ n. n % 64) index in
    let word : c.read_pins-pins.result ≡ word_at p.before (bit_word (blocks p) PinBits x) = c.read_pins-pins.ensures.pins.0 ∙ ap (word_at p.before) at in
    moves-loose p c.args.self.now.run run x c.requires.held c.block_of.result c.index-leaves.result.now c.is_set.result block c.index-leaves.ensures c.if-not-leaves.false
    (let words : c.args.words ≡ size p x = c.requires.about.2 in let few = c.if-words-gt-MAX_MEDIUM_WORDS.false in omega arith)
    (pin-is p x c.read_pins-pins.result c.requires.held word ∙ set-is c.is_set.result (bit_at c.read_pins-pins.result (bit_place (blocks p) x))
    (λ is. subst (λ k. bit_at c.read_pins-pins.result k ≡ 1) place (c.is_set.ensures.set is)) (λ is. subst (λ k. bit_at c.read_pins-pins.result k ≢ 1) place (c.is_set.ensures.clear is)))
