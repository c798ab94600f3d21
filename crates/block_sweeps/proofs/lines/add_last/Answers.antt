use Rattle.std.proofs.Common.{◌≡◌, arith, subst, ℕ, ◌+◌, ◌*◌, ◌-◌, ◌/◌, ◌%◌, ◌<◌, ◌≤◌, ◌^◌, inl, inr, IsTrue, w64}
use Rattle.std.specs.Int.{bit_at, leading_zeros}
use Rattle.std.proofs.lemmas.Bool.{cases_eq}
use Rattle.heap_layout.specs.Zones.{block_start}
use Rattle.object_model.specs.Objects.{HeapState, state_over, is_start}
use Rattle.block_sweeps.specs.Touches.{AreBitsOf, AreStarts, BeginsIn}
use Rattle.block_sweeps.proofs.LineStarts.{highest, begins-none, marks-last}
use Rattle.block_sweeps.proofs.lines.add_last.Goals as goal

-- the highest bit of a line in which an object begins
top-of : (s : HeapState) (k line word bits : ℕ) → bits < 2 ^ 64 → AreStarts s k (line / 4) word → AreBitsOf (line % 4) word bits → BeginsIn s k line
    → (leading_zeros w64 bits < 64) × (bit_at bits (63 - leading_zeros w64 bits) ≡ 1) × ((i : ℕ) → bit_at bits i ≡ 1 → i ≤ 63 - leading_zeros w64 bits)
top-of s k line word bits small starts are is =
    let at : line ≡ 4 * (line / 4) + line % 4 = omega arith in
    highest bits (elim (cases_eq bits 0) as (λ _. 0 < bits) [
      | inl none ↦ absurd (begins-none s k (line / 4) (line % 4) word bits (omega arith) none starts are (subst (BeginsIn s k) at is))
      | inr some ↦ omega arith
    ]) small

pub overflow_sub-last : goal.overflow_sub-last
overflow_sub-last g c =
    let s : HeapState = state_over (g.W.Words.words c.args.words.now) c.args.layout.now 0 0 in
    let top = top-of s c.args.block c.args.line c.start_word.result c.line_bits-bits.result c.line_bits-bits.type_inv c.start_word.ensures c.line_bits-bits.ensures c.requires.begins in
    omega (arith, top.0)

pub add_object-requires-clause-start : goal.add_object-requires-clause-start
add_object-requires-clause-start g c =
    let s : HeapState = state_over (g.W.Words.words c.args.words.now) c.args.layout.now 0 0 in
    let bits : ℕ = c.line_bits-bits.result in
    let top = top-of s c.args.block c.args.line c.start_word.result bits c.line_bits-bits.type_inv c.start_word.ensures c.line_bits-bits.ensures c.requires.begins in
    c.start_word.ensures.set (63 - leading_zeros w64 bits) (omega arith) (c.line_bits-bits.ensures.set (63 - leading_zeros w64 bits) top.1).1

pub returns : goal.returns
returns g c =
    let s : HeapState = state_over (g.W.Words.words c.args.words.now) c.args.layout.now 0 0 in
    let bits : ℕ = c.line_bits-bits.result in
    let top = top-of s c.args.block c.args.line c.start_word.result bits c.line_bits-bits.type_inv c.start_word.ensures c.line_bits-bits.ensures c.requires.begins in
    let bit : ℕ = 63 - leading_zeros w64 bits in
    let is = c.line_bits-bits.ensures.set bit top.1 in
    let few : c.args.line < 256 = c.requires.line in
    let index : ℕ = c.args.line / 4 in
    marks-last s c.args.block c.requires.block.block c.requires.apart c.args.line (64 * index + bit) c.args.lines.now c.add_object.new.lines
    few (omega (arith, is.0.after)) (omega (arith, is.0.most)) (c.start_word.ensures.set bit (omega arith) is.1)
    (λ offset least most start.
    let i : ℕ = offset - 64 * index in
    let at : offset ≡ 64 * index + i = omega (arith, least) in
    let one : bit_at c.start_word.result i ≡ 1 = c.start_word.ensures.all i (omega (arith, most))
    (subst (λ o. IsTrue (is_start s (block_start s.blocks c.args.block + o))) at start) in
    let set : bit_at bits i ≡ 1 = c.line_bits-bits.ensures.all i (record { after = omega (arith, least); most = omega (arith, most) }) one in
    omega (arith, at, top.2 i set))
    c.add_object.ensures
