-- An object's words are written, then its start bit.
use Rattle.std.proofs.Common.{◌≡◌, ◌≢◌, refl, ◌∙◌, ap, ℕ, ◌+◌, ◌-◌, ◌/◌, ◌%◌, ◌^◌, ◌<◌, ◌≤◌, ◌⊎◌, inl, arith, nat_eq, IsTrue, List, length, slice_index}
use Rattle.std.specs.Int.{bit_at}
use Rattle.heap_layout.specs.Zones.{heap_of, first, StartBits, IsAddress}
use Rattle.ideal_heap.specs.declared.name.Name.{Name}
use Rattle.ideal_heap.specs.Names.{name_code}
use Rattle.object_model.specs.Objects.{HeapState, with_words, size_of, shape_code}
use Rattle.object_model.specs.Changes.{WritesObject}
use Rattle.object_model.proofs.BitLemmas.{has_bit, ChangesBit, other_bit}

-- name, shape and zeros are at a, and other words are unchanged
pub record HasWords (old new : List ℕ) (a : ℕ) (n : Name) (refs nums : ℕ) : Type 0 where
  pub len : length new ≡ length old
  pub name : slice_index new a ≡ name_code n
  pub shape : slice_index new (a + 1) ≡ shape_code refs nums
  pub blank : (i : ℕ) → 2 ≤ i → i < size_of refs nums → slice_index new (a + i) ≡ 0
  pub others : (i : ℕ) → (i < a) ⊎ (a + size_of refs nums ≤ i) → slice_index new i ≡ slice_index old i

pub writes : (s : HeapState) (mid last : List ℕ) (a : ℕ) (n : Name) (refs nums zone place : ℕ)
    → IsAddress s.blocks a → zone ≡ first s.blocks StartBits → place ≡ a - heap_of s.blocks
    → HasWords s.words mid a n refs nums → ChangesBit mid last zone place → IsTrue (has_bit last zone place) → ((i : ℕ) → slice_index last i < 2 ^ 64)
    → WritesObject s (with_words s last) a n refs nums
writes s mid last a n refs nums zone place at zone_is place_is words bit set fits =
    let in_heap : (i : ℕ) → a + i ≡ zone + place / 64 → ⊥ = λ i h. omega arith in
    let at_name : a ≡ zone + place / 64 → ⊥ = λ h. omega arith in
    let at_shape : a + 1 ≡ zone + place / 64 → ⊥ = in_heap 1 in
    record {
      blocks = refl;
      number = refl;
      base = refl;
      extent = bit.len ∙ words.len;
      words = fits;
      name = bit.words a at_name ∙ words.name;
      shape = bit.words (a + 1) at_shape ∙ words.shape;
      blank = λ i least below. bit.words (a + i) (in_heap i) ∙ words.blank i least below;
      start = rw (← zone_is, ← place_is) set;
      starts = λ m small other.
          let apart : m ≢ place = λ h. other (omega arith) in
          let before : zone + m / 64 < a = omega arith in
          let same : bit_at (slice_index last (zone + m / 64)) (m % 64) ≡ bit_at (slice_index s.words (zone + m / 64)) (m % 64) =
          other_bit mid last zone place m bit apart ∙ ap (λ w. bit_at w (m % 64)) (words.others (zone + m / 64) (inl before)) in
          rw (← zone_is) (ap (λ v. nat_eq v 1) same);
      others = λ i outside other.
          let apart : i ≡ zone + place / 64 → ⊥ = λ h. other (rw (← zone_is, ← place_is) h) in
          bit.words i apart ∙ words.others i outside;
    }
