-- The words of a new object, as the machine's steps leave them and as one write of the object does.
use Rattle.std.proofs.Common.{◌≡◌, ◌≢◌, sym, ◌∙◌, ap, subst, ℕ, zero, suc, ◌+◌, ◌*◌, ◌-◌, ◌/◌, ◌%◌, ◌^◌, ◌<◌, ◌≤◌, ◌⊎◌, inl, inr, arith, nat_eq, List, eq-eqb, add-zero}
use Rattle.std.specs.Prelude.{slice_index}
use Rattle.std.specs.Int.{bit_at}
use Rattle.std.proofs.lemmas.Bool.{cases_eq, cases_lt, eqb-true}
use Rattle.std.proofs.lemmas.Grind.{same_number_lists}
use Rattle.std.proofs.lemmas.Nat.Bits.{same_from_bits_below, bit_at-lt}
use Rattle.heap_layout.specs.Zones.{StartBits, heap_of, row_words, first, bit_of, IsAddress}
use Rattle.ideal_heap.specs.declared.name.Name.{Name}
use Rattle.object_model.specs.Objects.{HeapState, with_words, word_at, size_of}
use Rattle.object_model.specs.Changes.{WritesObject}
use Rattle.mutator_core.specs.Machine.{birth_word}
use Rattle.object_model.specs.BitWords.{bit_word, bit_place}
use Rattle.side_meta.proofs.BitWords as single
use Rattle.local_allocators.proofs.PublishedObjects.{Stores}

same-bit : (x y : ℕ) → x < 2 → y < 2 → nat_eq x 1 ≡ nat_eq y 1 → x ≡ y
same-bit x y low small same = elim (cases_eq x 1) as (λ _. x ≡ y) [
  | inl one ↦ one ∙ sym (eqb-true y 1 (sym same ∙ eq-eqb x 1 one))
  | inr other ↦ elim (cases_eq y 1) as (λ _. x ≡ y) [
    | inl one ↦ absurd (other (eqb-true x 1 (same ∙ eq-eqb y 1 one)))
    | inr differ ↦ omega arith
  ]
]

module _ (s : HeapState) (v w : List ℕ) (a : ℕ) (n : Name) (refs nums : ℕ) (address : IsAddress s.blocks a) (fit : (i : ℕ) → word_at s i < 2 ^ 64)
    (writes : WritesObject s (with_words s v) a n refs nums) (stores : Stores s.blocks s.words w n a refs nums 0) where
  abbrev at : ℕ
  at = bit_word s.blocks StartBits a

  abbrev place : ℕ
  place = bit_place s.blocks a

  bits-same : (i : ℕ) → i < 64 → bit_at (slice_index v at) i ≡ bit_at (slice_index w at) i
  bits-same i small = elim (cases_eq i place) as (λ _. bit_at (slice_index v at) i ≡ bit_at (slice_index w at) i) [
    | inl here ↦ ap (bit_at (slice_index v at)) here ∙ eqb-true _ 1 writes.start
        ∙ sym (ap (bit_at (slice_index w at)) here ∙ ap (λ (x : ℕ). bit_at x place) stores.start ∙ single.with-same (word_at s at) place)
    | inr other ↦ (
        let from : heap_of s.blocks ≤ a = address.from in
        let below : a < row_words s.blocks = address.below in
        let k : ℕ = 64 * ((a - heap_of s.blocks) / 64) + i in
        let word : k / 64 ≡ (a - heap_of s.blocks) / 64 = omega arith in
        let bit : k % 64 ≡ i = omega arith in
        let same : bit_of s.blocks StartBits v k ≡ bit_of s.blocks StartBits s.words k = writes.starts k (omega arith) (λ e. other (omega arith)) in
        let there : nat_eq (bit_at (slice_index v at) i) 1 ≡ nat_eq (bit_at (word_at s at) i) 1 =
        subst (λ (b : ℕ). nat_eq (bit_at (slice_index v at) b) 1 ≡ nat_eq (bit_at (word_at s at) b) 1) bit
        (subst (λ (q : ℕ). nat_eq (bit_at (slice_index v (first s.blocks StartBits + q)) (k % 64)) 1 ≡ nat_eq (bit_at (word_at s (first s.blocks StartBits + q)) (k % 64)) 1) word same) in
        same-bit _ _ (bit_at-lt _ i) (bit_at-lt _ i) there
        ∙ sym (ap (λ (x : ℕ). bit_at x i) stores.start ∙ single.with-other (word_at s at) place i other))
  ]

  start-same : slice_index v at ≡ slice_index w at
  start-same = same_from_bits_below 64 (slice_index v at) (slice_index w at) (writes.words at)
      (subst (λ (x : ℕ). x < 2 ^ 64) (sym stores.start) (single.with-fits (word_at s at) place (fit at) (omega arith))) bits-same

  own-same : (k : ℕ) → k < size_of refs nums → slice_index v (a + k) ≡ birth_word n refs nums k
  own-same zero less = ap (slice_index v) (add-zero a) ∙ writes.name
  own-same (suc zero) less = writes.shape
  own-same (suc (suc k)) less = writes.blank (suc (suc k)) (omega arith) less

  outside : (i : ℕ) → (i < a) ⊎ (a + size_of refs nums ≤ i) → i ≢ at → slice_index v i ≡ slice_index w i
  outside i away other = writes.others i away other
      ∙ sym (stores.others i (elim away as (λ _. (i < a + 0) ⊎ (a + size_of refs nums ≤ i)) [ inl under ↦ inl (omega arith) | inr beyond ↦ inr beyond ]) other)

  each : (i : ℕ) → slice_index v i ≡ slice_index w i
  each i = elim (cases_eq i at) as (λ _. slice_index v i ≡ slice_index w i) [
    | inl here ↦ ap (slice_index v) here ∙ start-same ∙ sym (ap (slice_index w) here)
    | inr other ↦ elim (cases_lt i a) as (λ _. slice_index v i ≡ slice_index w i) [
      | inl under ↦ outside i (inl under) other
      | inr from ↦ elim (cases_lt i (a + size_of refs nums)) as (λ _. slice_index v i ≡ slice_index w i) [
        | inr beyond ↦ outside i (inr beyond) other
        | inl less ↦ (
            let k : ℕ = i - a in
            let inside : k < size_of refs nums = omega arith in
            let here : i ≡ a + k = omega arith in
            ap (slice_index v) here ∙ own-same k inside ∙ sym (ap (slice_index w) here ∙ stores.own k (omega arith) inside))
      ]
    ]
  ]

  pub words-written : v ≡ w
  words-written = same_number_lists v w (writes.extent ∙ sym stores.len) (λ k below. each k)
