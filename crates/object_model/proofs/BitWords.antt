-- One bit of a word before the heap is set or cleared.
use Rattle.std.proofs.Common.{◌≡◌, ◌≢◌, refl, sym, ◌∙◌, ap, subst, ℕ, ◌+◌, ◌*◌, ◌-◌, ◌/◌, ◌%◌, ◌^◌, ◌<◌, ◌≤◌, inl, inr, arith, Bool, List, length, slice_index, slice_set, nat_eq}
use Rattle.std.specs.Int.{bit_at}
use Rattle.std.proofs.lemmas.Bool.{cases_eq}
use Rattle.std.proofs.lemmas.List.{get_or-set_same, get_or-set_other, length-set}
use Rattle.heap_layout.specs.Zones.{Zone, PinBits, UnlogBits, row_words, heap_of, first, bit_of, address_bit, IsAddress}
use Rattle.heap_layout.proofs.MarkLemmas.{address_bit-at_address}
use Rattle.object_model.specs.Objects.{HeapState, with_words, word_at}
use Rattle.object_model.specs.Lawful.{IsWellFormed}
use Rattle.object_model.specs.Changes.{SetsPin, ClearsUnlog}
use Rattle.object_model.proofs.Marks.{mark-same}
use Rattle.side_meta.proofs.BitWords.{without-same, without-other, without-fits}
use Rattle.side_meta.specs.BitWords.{without_bit}
use Rattle.object_model.specs.BitWords.{bit_word, bit_place}

-- the row with another word v where the bit of address a lies, which has the other bits of that word
module _ (b : ℕ) (w : List ℕ) (long : length w ≡ row_words b) (z : Zone) (a v : ℕ) (there : IsAddress b a)
    (inside : first b z + 64 * b ≤ heap_of b)
    (rest : (k : ℕ) → k < 64 → k ≢ bit_place b a → bit_at v k ≡ bit_at (slice_index w (bit_word b z a)) k) where
  abbrev at : ℕ
  at = bit_word b z a

  abbrev after : List ℕ
  after = slice_set w (bit_word b z a) v

  pub at-side : bit_word b z a < heap_of b
  at-side = let from : heap_of b ≤ a = there.from in let below : a < row_words b = there.below in omega arith

  pub at-own : slice_index after (bit_word b z a) ≡ v
  at-own = get_or-set_same w at v 0 (let many : length w ≡ row_words b = long in let before : at < heap_of b = at-side in omega arith)

  pub own-bit : bit_of b z after (a - heap_of b) ≡ nat_eq (bit_at v (bit_place b a)) 1
  own-bit = ap (λ x. nat_eq (bit_at x (bit_place b a)) 1) at-own

  pub own-mark : address_bit b z after a ≡ nat_eq (bit_at v (bit_place b a)) 1
  own-mark = address_bit-at_address b z after a there ∙ own-bit

  pub other-bit : (n : ℕ) → n ≢ a - heap_of b → bit_of b z after n ≡ bit_of b z w n
  other-bit n other = elim (cases_eq (n / 64) ((a - heap_of b) / 64)) as (λ _. bit_of b z after n ≡ bit_of b z w n) [
    | inl same ↦
        (let here : first b z + n / 64 ≡ at = omega arith in
        ap (λ i. nat_eq (bit_at (slice_index after i) (n % 64)) 1) here ∙ ap (λ x. nat_eq (bit_at x (n % 64)) 1) at-own
        ∙ ap (λ x. nat_eq x 1) (rest (n % 64) (omega arith) (λ e. other (omega arith))) ∙ ap (λ i. nat_eq (bit_at (slice_index w i) (n % 64)) 1) (sym here))
    | inr differ ↦ ap (λ x. nat_eq (bit_at x (n % 64)) 1) (get_or-set_other w at (first b z + n / 64) v 0 (λ e. differ (omega arith)))
  ]

  pub other-mark : (x : ℕ) → x ≢ a → address_bit b z after x ≡ address_bit b z w x
  other-mark x other = mark-same b z w after x (λ here.
      let from : heap_of b ≤ x = here.from in let base : heap_of b ≤ a = there.from in
      other-bit (x - heap_of b) (λ e. other (omega arith)))

module _ (s : HeapState) (order : IsWellFormed s) (z : Zone) (a v : ℕ) (there : IsAddress s.blocks a)
    (inside : first s.blocks z + 64 * s.blocks ≤ heap_of s.blocks) (fits : v < 2 ^ 64)
    (rest : (k : ℕ) → k < 64 → k ≢ bit_place s.blocks a → bit_at v k ≡ bit_at (word_at s (bit_word s.blocks z a)) k) where
  abbrev set : List ℕ
  set = slice_set s.words (bit_word s.blocks z a) v

  pub word-before : bit_word s.blocks z a < heap_of s.blocks
  word-before = at-side s.blocks s.words order.row.extent z a v there inside rest

  pub word-own : word_at (with_words s set) (bit_word s.blocks z a) ≡ v
  word-own = at-own s.blocks s.words order.row.extent z a v there inside rest

  pub word-other : (i : ℕ) → i ≢ bit_word s.blocks z a → word_at (with_words s set) i ≡ word_at s i
  word-other i other = get_or-set_other s.words (bit_word s.blocks z a) i v 0 other

  pub words-fit : (i : ℕ) → word_at (with_words s set) i < 2 ^ 64
  words-fit i = elim (cases_eq i (bit_word s.blocks z a)) as (λ _. word_at (with_words s set) i < 2 ^ 64) [
    | inl e ↦ subst (λ (x : ℕ). x < 2 ^ 64) (sym (ap (word_at (with_words s set)) e ∙ word-own)) fits
    | inr other ↦ subst (λ (x : ℕ). x < 2 ^ 64) (sym (word-other i other)) (order.row.words i)
  ]

  pub bit-own : bit_of s.blocks z set (a - heap_of s.blocks) ≡ nat_eq (bit_at v (bit_place s.blocks a)) 1
  bit-own = own-bit s.blocks s.words order.row.extent z a v there inside rest

  pub bit-other : (n : ℕ) → n ≢ a - heap_of s.blocks → bit_of s.blocks z set n ≡ bit_of s.blocks z s.words n
  bit-other n other = other-bit s.blocks s.words order.row.extent z a v there inside rest n other

  pub mark-own : address_bit s.blocks z set a ≡ nat_eq (bit_at v (bit_place s.blocks a)) 1
  mark-own = own-mark s.blocks s.words order.row.extent z a v there inside rest

  pub mark-other : (x : ℕ) → x ≢ a → address_bit s.blocks z set x ≡ address_bit s.blocks z s.words x
  mark-other x other = other-mark s.blocks s.words order.row.extent z a v there inside rest x other

-- a pin bit
pub sets-pin : (s : HeapState) (order : IsWellFormed s) (a v : ℕ) (b : Bool) → IsAddress s.blocks a → v < 2 ^ 64 → nat_eq (bit_at v (bit_place s.blocks a)) 1 ≡ b
    → ((k : ℕ) → k < 64 → k ≢ bit_place s.blocks a → bit_at v k ≡ bit_at (word_at s (bit_word s.blocks PinBits a)) k)
    → SetsPin s (with_words s (slice_set s.words (bit_word s.blocks PinBits a) v)) a b
sets-pin s order a v b there fits own rest = record {
  blocks = refl;
  number = refl;
  base = refl;
  extent = length-set s.words (bit_word s.blocks PinBits a) v;
  words = words-fit s order PinBits a v there (omega arith) fits rest;
  pin = mark-own s order PinBits a v there (omega arith) fits rest ∙ own;
  others = mark-other s order PinBits a v there (omega arith) fits rest;
  rest = λ i outside. word-other s order PinBits a v there (omega arith) fits rest i (λ e.
      let from : heap_of s.blocks ≤ a = there.from in let below : a < row_words s.blocks = there.below in
      elim outside as (λ _. ⊥) [ inl h ↦ omega arith | inr h ↦ omega arith ]);
}

-- an unlog bit
pub clears-unlog : (s : HeapState) (order : IsWellFormed s) (a : ℕ) → IsAddress s.blocks a
    → ClearsUnlog s (with_words s (slice_set s.words (bit_word s.blocks UnlogBits a) (without_bit (word_at s (bit_word s.blocks UnlogBits a)) (bit_place s.blocks a)))) a
clears-unlog s order a there =
    let n : ℕ = word_at s (bit_word s.blocks UnlogBits a) in
    let k : ℕ = bit_place s.blocks a in
    let low : k < 64 = omega arith in
    let fits : without_bit n k < 2 ^ 64 = without-fits n k (order.row.words (bit_word s.blocks UnlogBits a)) in
    let rest : (i : ℕ) → i < 64 → i ≢ k → bit_at (without_bit n k) i ≡ bit_at n i = λ i small other. without-other n k i low small other in
    record {
      blocks = refl;
      number = refl;
      base = refl;
      extent = length-set s.words (bit_word s.blocks UnlogBits a) (without_bit n k);
      words = words-fit s order UnlogBits a (without_bit n k) there (omega arith) fits rest;
      clear = mark-own s order UnlogBits a (without_bit n k) there (omega arith) fits rest ∙ ap (λ x. nat_eq x 1) (without-same n k low);
      others = mark-other s order UnlogBits a (without_bit n k) there (omega arith) fits rest;
      rest = λ i outside. word-other s order UnlogBits a (without_bit n k) there (omega arith) fits rest i (λ e.
          let from : heap_of s.blocks ≤ a = there.from in let below : a < row_words s.blocks = there.below in
          elim outside as (λ _. ⊥) [ inl h ↦ omega arith | inr h ↦ omega arith ]);
    }
