-- An object is written and its lines are marked, in a block of any kind that has small objects.
use Rattle.std.proofs.Common.{◌≡◌, ◌≢◌, sym, ◌∙◌, ap, ℕ, ◌+◌, ◌*◌, ◌-◌, ◌/◌, ◌%◌, ◌<◌, ◌≤◌, ◌⊎◌, inl, inr, arith, IsTrue, List, nat_eq}
use Rattle.std.specs.Int.{bit_at}
use Rattle.heap_layout.specs.Zones.{Zone, StartBits, PinBits, UnlogBits, BlockWords, Globals, heap_of, first, address_bit, block_at}
use Rattle.heap_layout.specs.declared.block.Kind.TheVariants as kinds
use Rattle.ideal_heap.specs.declared.name.Name.{Name}
use Rattle.object_model.specs.Objects.{HeapState, with_words, block_word, line_marked, size_of}
use Rattle.object_model.specs.Lawful.{IsLawful, IsLawfulButLines, IsWellFormed}
use Rattle.object_model.specs.Changes.{WritesObject}
use Rattle.object_model.specs.Births.{IsRoom, MarksLinesOfBirth}
use Rattle.object_model.specs.Lines.{TouchesLine}
use Rattle.object_model.proofs.Blocks.{SameHeap}
use Rattle.object_model.proofs.Births as births
use Rattle.object_model.proofs.Births.{Adds}
use Rattle.object_model.proofs.Lines.{touched-or-not}
use Rattle.object_model.proofs.Marks.{mark-same}
use Rattle.object_model.proofs.OneKind.{kind-within}

-- marking lines touches no object
pub marks-same : (s : HeapState) (w : List ℕ) (a size : ℕ) → MarksLinesOfBirth s (with_words s w) a size → SameHeap s w
marks-same s w a size marks = record {
  words = λ i above. marks.rest i (inr (omega arith));
  globals = λ g small. marks.rest (first s.blocks Globals + g) (inl (omega arith));
  starts = λ x. bits StartBits x (omega arith);
  pins = λ x. bits PinBits x (omega arith);
  unlogs = λ x. bits UnlogBits x (omega arith);
}
  where
    bits : (z : Zone) (x : ℕ) → first s.blocks StartBits ≤ first s.blocks z → address_bit s.blocks z w x ≡ address_bit s.blocks z s.words x
    bits z x above = mark-same s.blocks z s.words w x (λ there. ap (λ word. nat_eq (bit_at word ((x - heap_of s.blocks) % 64)) 1)
        (marks.rest (first s.blocks z + (x - heap_of s.blocks) / 64) (inr (omega arith))))

-- the lines of a new object are marked, and no others
module _ (s : HeapState) (w : List ℕ) (a : ℕ) (n : Name) (refs nums : ℕ) (one_more : Adds s w a n refs nums)
    (same_words : (k : ℕ) → k < s.blocks → block_word (with_words s w) k ≡ block_word s k) (order : IsWellFormed s) (room : IsRoom s a n refs nums)
    (line-other : (k line : ℕ) → k < s.blocks → line < 256 → (TouchesLine s.blocks a (size_of refs nums) (256 * k + line) → ⊥) → line_marked (with_words s w) k line ≡ line_marked s k line)
    (line-marked : (k line : ℕ) → k < s.blocks → line < 256 → TouchesLine s.blocks a (size_of refs nums) (256 * k + line) → IsTrue (line_marked (with_words s w) k line))
    (order-marked : IsWellFormed (with_words s w)) where
  -- a line that is not touched, or one that is
  either : (P : Type 0) (k line : ℕ) → ((TouchesLine s.blocks a (size_of refs nums) (256 * k + line) → ⊥) → P) → (TouchesLine s.blocks a (size_of refs nums) (256 * k + line) → P) → P
  either P k line none here = elim (touched-or-not s.blocks a (size_of refs nums) (256 * k + line)) as (λ _. P) [ inl touches ↦ here touches | inr not ↦ none not ]

  line-away : (k line : ℕ) → k < s.blocks → line < 256 → k ≢ block_at s.blocks a → line_marked (with_words s w) k line ≡ line_marked s k line
  line-away k line there small away = either (line_marked (with_words s w) k line ≡ line_marked s k line) k line (line-other k line there small)
      (λ here. absurd (away (births.covered-block s w a n refs nums one_more same_words order room k line small here)))

  pub but_lines-marked : IsLawfulButLines s → IsLawfulButLines (with_words s w)
  but_lines-marked = births.but_lines-born s w a n refs nums one_more same_words order room order-marked line-away

  pub lawful-marked : IsLawful s → IsLawful (with_words s w)
  lawful-marked lawful = record {
    but_lines = but_lines-marked lawful.but_lines;
    lines = λ k. births.lines-born s w a n refs nums one_more same_words order room k (λ line is small was. stay k line (kind-within s k kinds.Immix is) small was)
        (λ line is small set. grown k line (kind-within s k kinds.Immix is) small set) (λ line is small here. line-marked k line (kind-within s k kinds.Immix is) small here) (lawful.lines k);
  }
    where
      stay : (k line : ℕ) → k < s.blocks → line < 256 → IsTrue (line_marked s k line) → IsTrue (line_marked (with_words s w) k line)
      stay k line there small was = either (IsTrue (line_marked (with_words s w) k line)) k line (λ none. line-other k line there small none ∙ was) (line-marked k line there small)

      grown : (k line : ℕ) → k < s.blocks → line < 256 → IsTrue (line_marked (with_words s w) k line) → IsTrue (line_marked s k line) ⊎ TouchesLine s.blocks a (size_of refs nums) (256 * k + line)
      grown k line there small set = either (IsTrue (line_marked s k line) ⊎ TouchesLine s.blocks a (size_of refs nums) (256 * k + line)) k line (λ none. inl (sym (line-other k line there small none) ∙ set)) (λ here. inr here)

-- the object is written, then its lines are marked
module _ (s : HeapState) (w1 w2 : List ℕ) (a : ℕ) (n : Name) (refs nums : ℕ) (order : IsWellFormed s) (room : IsRoom s a n refs nums)
    (writes : WritesObject s (with_words s w1) a n refs nums) (marks : MarksLinesOfBirth (with_words s w1) (with_words s w2) a (size_of refs nums)) where
  one_then : Adds s w2 a n refs nums
  one_then = births.adds-to s w1 w2 a n refs nums room.vacant.address (births.adds s w1 a n refs nums writes room.vacant.address) (marks-same (with_words s w1) w2 a (size_of refs nums) marks)

  words_then : (k : ℕ) → k < s.blocks → block_word (with_words s w2) k ≡ block_word s k
  words_then k there = marks.rest (first s.blocks BlockWords + k) (inl (omega arith)) ∙ births.block_words s w1 a n refs nums writes room.vacant.address k there

  pub lawful-then : IsLawful s → IsLawful (with_words s w2)
  lawful-then = lawful-marked s w2 a n refs nums one_then words_then order room
      (λ k line there small outside. marks.others (256 * k + line) (omega arith) outside ∙ births.lines-same s w1 a n refs nums writes room.vacant.address k line there small)
      (λ k line there small touches. marks.marked (256 * k + line) touches)
      (births.order-born s w2 a n refs nums one_then words_then order room (marks.extent ∙ writes.extent) marks.words)

-- its lines are marked, then it is written
module _ (s : HeapState) (w1 w2 : List ℕ) (a : ℕ) (n : Name) (refs nums : ℕ) (order : IsWellFormed s) (room : IsRoom s a n refs nums)
    (marks : MarksLinesOfBirth s (with_words s w1) a (size_of refs nums)) (writes : WritesObject (with_words s w1) (with_words s w2) a n refs nums) where
  one_first : Adds s w2 a n refs nums
  one_first = births.adds-from s w1 w2 a n refs nums (marks-same s w1 a (size_of refs nums) marks) (births.adds (with_words s w1) w2 a n refs nums writes room.vacant.address)

  words_first : (k : ℕ) → k < s.blocks → block_word (with_words s w2) k ≡ block_word s k
  words_first k there = births.block_words (with_words s w1) w2 a n refs nums writes room.vacant.address k there ∙ marks.rest (first s.blocks BlockWords + k) (inl (omega arith))

  pub lawful-first : IsLawful s → IsLawful (with_words s w2)
  lawful-first = lawful-marked s w2 a n refs nums one_first words_first order room
      (λ k line there small outside. births.lines-same (with_words s w1) w2 a n refs nums writes room.vacant.address k line there small ∙ marks.others (256 * k + line) (omega arith) outside)
      (λ k line there small touches. births.lines-same (with_words s w1) w2 a n refs nums writes room.vacant.address k line there small ∙ marks.marked (256 * k + line) touches)
      (births.order-born s w2 a n refs nums one_first words_first order room (writes.extent ∙ marks.extent) writes.words)
