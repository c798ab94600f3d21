-- A reference field of an object is set, in the heap and in the ideal heap.
use Rattle.std.proofs.Common.{◌≡◌, ◌≢◌, sym, ◌∙◌, ap, subst, ℕ, ◌+◌, ◌<◌, inl, inr, arith, IsTrue, List, Some, map, slice_set, add_assoc}
use Rattle.std.specs.Prelude.{unwrap_or}
use Rattle.std.specs.List.{range_with_len}
use Rattle.std.proofs.lemmas.Bool.{cases_eq}
use Rattle.ideal_heap.specs.Ideal.{IdealHeap, Nil, record_of, set_record, put_field, no_fields, at_name}
use Rattle.ideal_heap.proofs.UpdateLemmas.{at_name-same, at_name-other}
use Rattle.object_model.specs.Objects.{HeapState, with_words, word_at, IsHeld, name_at, refs_at, nums_at, size_at, ref_at, num_at, record_at, field_of_word, is_reference}
use Rattle.object_model.specs.Lawful.{IsRefField, IsRoot}
use Rattle.object_model.specs.Graphs.{MutatorState}
use Rattle.object_model.specs.Agreement.{RepresentsOn}
use Rattle.object_model.specs.Changes.{ObjectsStay}
use Rattle.object_model.proofs.Frames.{refs-after}
use Rattle.object_model.proofs.GlobalStores.{root-fits}
use Rattle.object_model.proofs.Numbers.{store-models}
use Rattle.object_model.proofs.Records.{record-same, record-parts, numbers-same, field-same, number-place, fields_at, numbers_at}
use Rattle.object_model.proofs.References.{refers-some, root-field}
use Rattle.object_model.proofs.Stores as stores
use Rattle.object_model.proofs.Updates.{map-range-set}

-- field i of the object at a becomes v, which is nil or in the set
module _ (s : HeapState) (ms : List MutatorState) (h : IdealHeap) (set : ℕ → Type 0) (model : RepresentsOn s ms h set)
    (a i v : ℕ) (there : set a) (within : i < refs_at s a) (inset : v ≢ 0 → set v) where
  abbrev place : ℕ
  place = 3 + i

  abbrev w : List ℕ
  w = slice_set s.words (a + place) v

  abbrev pub put : HeapState
  put = with_words s w

  held : IsHeld s a
  held = model.mirrors.held a there

  root : IsRoot s v
  root some = model.mirrors.held v (inset some)

  reference : IsRefField s v
  reference = root-field s v root

  keeps : ObjectsStay s put
  keeps = stores.keeps s model.order a place v held (omega arith) (omega arith)

  other-word : (x k : ℕ) → IsHeld s x → k < size_at s x → x ≢ a → word_at put (x + k) ≡ word_at s (x + k)
  other-word x k holds small other = stores.word-other s model.order a place v held (omega arith) (omega arith) (x + k)
      (stores.apart-from s model.order a place v held (omega arith) (omega arith) x k holds small other)

  own-ref : ref_at put a i ≡ v
  own-ref = stores.word-same s model.order a place v held (omega arith) (omega arith) (a + 3 + i) (omega arith)

  ref-other : (x k : ℕ) → IsHeld s x → k < refs_at s x → (x ≡ a → k ≢ i) → ref_at put x k ≡ ref_at s x k
  ref-other x k holds less differ = elim (cases_eq x a) as (λ _. ref_at put x k ≡ ref_at s x k) [
    | inl same ↦ stores.word-other s model.order a place v held (omega arith) (omega arith) (x + 3 + k) (λ e. differ same (omega arith))
    | inr other ↦ ap (word_at put) (add_assoc x 3 k) ∙ other-word x (3 + k) holds (omega arith) other ∙ ap (word_at s) (sym (add_assoc x 3 k))
  ]

  -- what holds of the new word and of every other field holds of each field
  by-place : (P : ℕ → Type 0) (x k : ℕ) → IsHeld s x → k < refs_at s x → P v → P (ref_at s x k) → P (ref_at put x k)
  by-place P x k holds less own old = elim (cases_eq x a) as (λ _. P (ref_at put x k)) [
    | inl same ↦ elim (cases_eq k i) as (λ _. P (ref_at put x k)) [
      | inl at ↦ subst P (sym (ap (λ y. ref_at put y k) same ∙ ap (ref_at put a) at ∙ own-ref)) own
      | inr elsewhere ↦ subst P (sym (ref-other x k holds less (λ e. elsewhere))) old
    ]
    | inr other ↦ subst P (sym (ref-other x k holds less (λ e. absurd (other e)))) old
  ]

  -- every number is unchanged
  numbers-kept : (x j : ℕ) → IsHeld s x → j < nums_at s x → num_at put x j ≡ num_at s x j
  numbers-kept x j holds less =
      number-place s w keeps x j holds
      ∙ elim (cases_eq x a) as (λ _. word_at put (x + 3 + refs_at s x + j) ≡ word_at s (x + 3 + refs_at s x + j)) [
        | inl same ↦ stores.word-other s model.order a place v held (omega arith) (omega arith) (x + 3 + refs_at s x + j)
            (λ e. let refs : refs_at s x ≡ refs_at s a = ap (refs_at s) same in omega arith)
        | inr other ↦ (let e : x + 3 + refs_at s x + j ≡ x + (3 + refs_at s x + j) = omega arith in
            ap (word_at put) e ∙ other-word x (3 + refs_at s x + j) holds (omega arith) other ∙ ap (word_at s) (sym e))
      ]

  field-kept : (x k : ℕ) → IsHeld s x → k < refs_at s x → (x ≡ a → k ≢ i) → field_of_word put (ref_at put x k) ≡ field_of_word s (ref_at s x k)
  field-kept x k holds less differ = ap (field_of_word put) (ref-other x k holds less differ) ∙ field-same s w keeps (ref_at s x k) (model.order.objects.references x k holds less)

  own-fields : fields_at put a ≡ slice_set (fields_at s a) i (field_of_word s v)
  own-fields =
      ap (λ n. map (λ k. field_of_word put (ref_at put a k)) (range_with_len 0 n)) (refs-after s w keeps a held)
      ∙ map-range-set Nil (λ k. field_of_word put (ref_at put a k)) (λ k. field_of_word s (ref_at s a k)) (refs_at s a) i within (λ k other less. field-kept a k held less (λ same. other))
      ∙ ap (λ f. slice_set (fields_at s a) i f) (ap (field_of_word put) own-ref ∙ field-same s w keeps v reference)

  own-record : put_field (record_of h (name_at s a)) i (field_of_word s v) ≡ record_at put a
  own-record =
      ap (λ r. put_field (unwrap_or r no_fields) i (field_of_word s v)) (model.mirrors.records a there)
      ∙ record-parts (slice_set (fields_at s a) i (field_of_word s v)) (fields_at put a) (numbers_at s a) (numbers_at put a)
      (sym own-fields) (sym (numbers-same s w keeps a held (λ j less. numbers-kept a j held less)))

  other-record : (x : ℕ) → IsHeld s x → x ≢ a → record_at put x ≡ record_at s x
  other-record x holds other = record-same s w keeps x holds (λ k less. field-kept x k holds less (λ same. absurd (other same))) (λ j less. numbers-kept x j holds less)

  pub field-set : RepresentsOn put ms (set_record h (name_at s a) (put_field (record_of h (name_at s a)) i (field_of_word s v))) set
  field-set = store-models s w keeps ms h set model (name_at s a) (put_field (record_of h (name_at s a)) i (field_of_word s v))
      (stores.words-fit s model.order a place v held (omega arith) (omega arith) (root-fits s model.order v root))
      (stores.pins-same s model.order a place v held (omega arith) (omega arith))
      (stores.globals-same s model.order a place v held (omega arith) (omega arith))
      (λ x k holds less. by-place (IsRefField s) x k holds less reference (model.order.objects.references x k holds less))
      (λ x k in_set less. by-place (λ q. IsTrue (is_reference q) → set q) x k (model.mirrors.held x in_set) less (λ is. inset (refers-some v is)) (model.mirrors.fields x k in_set less))
      (λ x in_set. elim (cases_eq x a) as (λ _. at_name h.records (name_at s a) (Some (put_field (record_of h (name_at s a)) i (field_of_word s v))) (name_at s x) ≡ Some (record_at put x)) [
        | inl same ↦ ap (λ y. at_name h.records (name_at s a) (Some (put_field (record_of h (name_at s a)) i (field_of_word s v))) (name_at s y)) same
            ∙ at_name-same h.records (name_at s a) (Some (put_field (record_of h (name_at s a)) i (field_of_word s v)))
            ∙ ap (λ r. Some r) (own-record ∙ ap (record_at put) (sym same))
        | inr other ↦ at_name-other h.records (name_at s a) (Some (put_field (record_of h (name_at s a)) i (field_of_word s v))) (name_at s x)
            (λ e. other (model.order.objects.names x a (model.mirrors.held x in_set) held e))
            ∙ model.mirrors.records x in_set
            ∙ ap (λ r. Some r) (sym (other-record x (model.mirrors.held x in_set) other))
      ])
