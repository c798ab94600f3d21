-- The record at an address is unchanged if its fields and numbers are.
use Rattle.std.proofs.Common.{◌≡◌, sym, ◌∙◌, ap, ℕ, ◌+◌, ◌<◌, inl, inr, List, map}
use Rattle.std.specs.List.{range_with_len}
use Rattle.ideal_heap.specs.Ideal.{Record, Field, Nil, At}
use Rattle.object_model.specs.Objects.{HeapState, with_words, word_at, IsHeld, refs_at, nums_at, ref_at, num_at, record_at, field_of_word}
use Rattle.object_model.specs.Lawful.{IsRefField}
use Rattle.object_model.specs.Changes.{ObjectsStay}
use Rattle.object_model.proofs.Frames.{refs-after, nums-after, name-after}
use Rattle.object_model.proofs.Representation.{word-named, nil-word}
use Rattle.object_model.proofs.References.{refers-cases}
use Rattle.object_model.proofs.Updates.{map-range-same}

abbrev pub made_record : List Field → List ℕ → Record
made_record refs nums = record { refs = refs; nums = nums }

pub record-parts : (refs refs' : List Field) (nums nums' : List ℕ) → refs ≡ refs' → nums ≡ nums' → made_record refs nums ≡ made_record refs' nums'
record-parts refs refs' nums nums' e f = ap (λ x. made_record x nums) e ∙ ap (λ x. made_record refs' x) f

abbrev pub fields_at : HeapState → ℕ → List Field
fields_at s a = map (λ i. field_of_word s (ref_at s a i)) (range_with_len 0 (refs_at s a))

abbrev pub numbers_at : HeapState → ℕ → List ℕ
numbers_at s a = map (λ j. num_at s a j) (range_with_len 0 (nums_at s a))

module _ (s : HeapState) (w : List ℕ) (keeps : ObjectsStay s (with_words s w)) where
  abbrev after : HeapState
  after = with_words s w

  pub field-same : (v : ℕ) → IsRefField s v → field_of_word after v ≡ field_of_word s v
  field-same v reference = elim (refers-cases v) as (λ _. field_of_word after v ≡ field_of_word s v) [
    | inl nil ↦ nil-word after v nil ∙ sym (nil-word s v nil)
    | inr some ↦ word-named after v some ∙ ap (λ n. At n) (name-after s w keeps v (reference some)) ∙ sym (word-named s v some)
  ]

  pub fields-same : (a : ℕ) → IsHeld s a → ((i : ℕ) → i < refs_at s a → field_of_word after (ref_at after a i) ≡ field_of_word s (ref_at s a i)) → fields_at after a ≡ fields_at s a
  fields-same a held same =
      ap (λ n. map (λ i. field_of_word after (ref_at after a i)) (range_with_len 0 n)) (refs-after s w keeps a held)
      ∙ map-range-same Nil (λ i. field_of_word after (ref_at after a i)) (λ i. field_of_word s (ref_at s a i)) (refs_at s a) same

  pub numbers-same : (a : ℕ) → IsHeld s a → ((j : ℕ) → j < nums_at s a → num_at after a j ≡ num_at s a j) → numbers_at after a ≡ numbers_at s a
  numbers-same a held same =
      ap (λ n. map (λ j. num_at after a j) (range_with_len 0 n)) (nums-after s w keeps a held)
      ∙ map-range-same 0 (λ j. num_at after a j) (λ j. num_at s a j) (nums_at s a) same

  pub record-same : (a : ℕ) → IsHeld s a → ((i : ℕ) → i < refs_at s a → field_of_word after (ref_at after a i) ≡ field_of_word s (ref_at s a i))
      → ((j : ℕ) → j < nums_at s a → num_at after a j ≡ num_at s a j) → record_at after a ≡ record_at s a
  record-same a held refs nums = record-parts (fields_at after a) (fields_at s a) (numbers_at after a) (numbers_at s a) (fields-same a held refs) (numbers-same a held nums)

  -- the number's index, by the old shape
  pub number-place : (a j : ℕ) → IsHeld s a → num_at after a j ≡ word_at after (a + 3 + refs_at s a + j)
  number-place a j held = ap (λ n. word_at after (a + 3 + n + j)) (refs-after s w keeps a held)
