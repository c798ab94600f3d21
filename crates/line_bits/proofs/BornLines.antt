-- Lines that were marked are marked as an object's birth marks them.
use Rattle.std.proofs.Common.{◌≡◌, refl, sym, ℕ, ◌+◌, ◌*◌, ◌/◌, ◌^◌, ◌<◌, ◌≤◌, ◌⊎◌, inl, inr, arith, Bool, true, false, IsTrue, List, slice_index}
use Rattle.heap_layout.specs.Zones.{LineWords, StartBits, first, bit_of, row_words}
use Rattle.heap_layout.specs.declared.layout.Layout.{Layout}
use Rattle.object_model.specs.Births as births
use Rattle.object_model.specs.Objects.{state_over}
use Rattle.line_bits.specs.LineMarks.{HasTouched, MarksLines}

same-truth : (x y : Bool) → (IsTrue x → IsTrue y) → (IsTrue y → IsTrue x) → x ≡ y
same-truth true y to from = sym (to refl)
same-truth false true to from = from refl
same-truth false false to from = refl

-- the words with bits of touched lines are line words
line-word : (b a size i : ℕ) → a + size ≤ row_words b → (i < first b LineWords) ⊎ (first b StartBits ≤ i) → HasTouched b a size i → ⊥
line-word b a size i last outside has =
    let line : ℕ = has.line in
    let from : 18 + 197 * b + 16 * line < a + size = has.touches.from in
    let word : i ≡ first b LineWords + line / 64 = has.word in
    elim outside as (λ _. ⊥) [ inl before ↦ omega arith | inr beyond ↦ omega arith ]

pub born-lines : (old new : List ℕ) (l : Layout) (number base a size : ℕ) → ((i : ℕ) → slice_index old i < 2 ^ 64) → a + size ≤ row_words l.blocks
    → MarksLines (state_over old l 0 0) (state_over new l 0 0) a size → births.MarksLinesOfBirth (state_over old l number base) (state_over new l number base) a size
born-lines old new l number base a size fits last marks = record {
  blocks = refl;
  number = refl;
  base = refl;
  extent = marks.extent;
  words = marks.fit fits;
  marked = marks.marked;
  others = λ line there away. same-truth (bit_of l.blocks LineWords new line) (bit_of l.blocks LineWords old line)
      (λ is. elim (marks.only line is) as (λ _. IsTrue (bit_of l.blocks LineWords old line)) [ inl was ↦ was | inr touches ↦ absurd (away touches) ])
      (marks.kept line);
  rest = λ i outside. marks.others i (line-word l.blocks a size i last outside);
}
