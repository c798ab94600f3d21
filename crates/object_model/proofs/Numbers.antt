-- A field or a number of an object is set, in the heap and in the ideal heap.
use Rattle.std.proofs.Common.{◌≡◌, ◌≢◌, sym, ◌∙◌, ap, subst, ℕ, ◌+◌, ◌^◌, ◌<◌, ◌≤◌, inl, inr, arith, IsTrue, List, [], ◌∷◌, Some, None, Option, map, slice_set, ◌↔◌, Bool, add_assoc}
use Rattle.std.specs.Prelude.{unwrap_or}
use Rattle.std.specs.List.{AllByRecursion, Any, range_with_len}
use Rattle.std.proofs.lemmas.Bool.{cases_eq, or_left}
use Rattle.ideal_heap.specs.declared.name.Name.{Name}
use Rattle.ideal_heap.specs.Ideal.{IdealHeap, Record, record_of, set_record, put_number, no_fields, at_name}
use Rattle.ideal_heap.proofs.UpdateLemmas.{at_name-same, at_name-other}
use Rattle.object_model.specs.Objects.{HeapState, with_words, word_at, is_pinned, is_unlogged, IsHeld, name_at, refs_at, nums_at, size_at, ref_at, num_at, record_at, global_at, field_of_word, is_reference}
use Rattle.object_model.specs.Lawful.{IsRefField, IsRoot}
use Rattle.object_model.specs.Graphs.{MutatorState, PointsTo, register_at}
use Rattle.object_model.specs.Agreement.{RepresentsOn}
use Rattle.object_model.specs.Changes.{ObjectsStay}
use Rattle.object_model.proofs.Frames.{orderly-after, held-after, held-before, refs-after, nums-after, name-after}
use Rattle.object_model.proofs.Records.{record-same, record-parts, fields-same, field-same, number-place, fields_at, numbers_at}
use Rattle.object_model.proofs.Stores as stores
use Rattle.object_model.proofs.Updates.{map-range-set}

-- what a word represents is unchanged
pub points-after : (s : HeapState) (w : List ℕ) → ObjectsStay s (with_words s w) → (v : ℕ) (o : Option Name) → PointsTo s v o → PointsTo (with_words s w) v o
points-after s w keeps v None p = p
points-after s w keeps v (Some n) p = (p.0, held-after s w keeps v p.1, name-after s w keeps v p.1 ∙ p.2)

pub registers-after : (s : HeapState) (w : List ℕ) → ObjectsStay s (with_words s w) → (h : IdealHeap) (ms : List MutatorState)
    → AllByRecursion (λ m. (d : ℕ) → d < 16 → PointsTo s (register_at m d) (h.registers m.number d)) ms
    → AllByRecursion (λ m. (d : ℕ) → d < 16 → PointsTo (with_words s w) (register_at m d) (h.registers m.number d)) ms
registers-after s w keeps h [] all = tt
registers-after s w keeps h (m ∷ ms) all = (λ d small. points-after s w keeps (register_at m d) (h.registers m.number d) (all.0 d small), registers-after s w keeps h ms all.1)

-- After a step that keeps the objects and sets one ideal record, the heap still represents the ideal heap, if reference
-- fields stay lawful and in the set, and each object of the set represents its record.
module _ (s : HeapState) (w : List ℕ) (keeps : ObjectsStay s (with_words s w)) (ms : List MutatorState) (h : IdealHeap) (set : ℕ → Type 0) (model : RepresentsOn s ms h set) (n : Name) (r : Record) where
  abbrev after : HeapState
  after = with_words s w

  pub store-models : ((i : ℕ) → word_at after i < 2 ^ 64)
      → ((a : ℕ) → is_pinned after a ≡ is_pinned s a)
      → ((g : ℕ) → g < 16 → global_at after g ≡ global_at s g)
      → ((a i : ℕ) → IsHeld s a → i < refs_at s a → IsRefField s (ref_at after a i))
      → ((a i : ℕ) → set a → i < refs_at s a → IsTrue (is_reference (ref_at after a i)) → set (ref_at after a i))
      → ((a : ℕ) → set a → at_name h.records n (Some r) (name_at s a) ≡ Some (record_at after a))
      → RepresentsOn after ms (set_record h n r) set
  store-models words pins globals references closed records = record {
    order = orderly-after s w keeps model.order words
        (λ a pin. model.order.objects.marks a (or_left (is_pinned s a) (is_unlogged s a) (sym (pins a) ∙ pin)))
        references
        (λ g small. subst (IsRoot s) (sym (globals g small)) (model.order.objects.globals g small));
    mutators = model.mutators;
    pointers = record {
      registers = registers-after s w keeps h ms model.pointers.registers;
      globals = λ g small. subst (λ v. PointsTo after v (h.globals g)) (sym (globals g small)) (points-after s w keeps (global_at s g) (h.globals g) (model.pointers.globals g small));
      confined = record { registers = model.pointers.confined.registers; globals = model.pointers.confined.globals };
    };
    births = record {
      births = model.births.births;
      held = λ a there. let before = held-before s w keeps a there in
          subst (λ (k : Name). Any (λ m. (k.mutator ≡ m.number) × (k.birth ≤ m.births)) ms) (sym (name-after s w keeps a before)) (model.births.held a before);
      pinned = model.births.pinned;
    };
    mirrors = record {
      held = λ a there. held-after s w keeps a (model.mirrors.held a there);
      fields = λ a i there less some. closed a i there (subst (λ (k : ℕ). i < k) (refs-after s w keeps a (model.mirrors.held a there)) less) some;
      registers = model.mirrors.registers;
      globals = λ g small some. subst set (sym (globals g small)) (model.mirrors.globals g small (λ nil. some (globals g small ∙ nil)));
      records = λ a there. ap (λ k. at_name h.records n (Some r) k) (name-after s w keeps a (model.mirrors.held a there)) ∙ records a there;
      pins = λ a there. let e : name_at after a ≡ name_at s a = name-after s w keeps a (model.mirrors.held a there) in
          subst (λ (k : Name). IsTrue (is_pinned after a) ↔ IsTrue (h.pinned k)) (sym e)
          (subst (λ (b : Bool). IsTrue b ↔ IsTrue (h.pinned (name_at s a))) (sym (pins a)) (model.mirrors.pins a there));
    };
  }

-- number j of the object at a becomes n
module _ (s : HeapState) (ms : List MutatorState) (h : IdealHeap) (set : ℕ → Type 0) (model : RepresentsOn s ms h set)
    (a j n : ℕ) (there : set a) (within : j < nums_at s a) (fits : n < 2 ^ 64) where
  abbrev place : ℕ
  place = 3 + refs_at s a + j

  abbrev pub written : HeapState
  written = with_words s (slice_set s.words (a + place) n)

  held : IsHeld s a
  held = model.mirrors.held a there

  keeps : ObjectsStay s written
  keeps = stores.keeps s model.order a place n held (omega arith) (omega arith)

  other-word : (x i : ℕ) → IsHeld s x → i < size_at s x → x ≢ a → word_at written (x + i) ≡ word_at s (x + i)
  other-word x i holds small other = stores.word-other s model.order a place n held (omega arith) (omega arith) (x + i)
      (stores.apart-from s model.order a place n held (omega arith) (omega arith) x i holds small other)

  -- every reference field is unchanged
  refs-same : (x i : ℕ) → IsHeld s x → i < refs_at s x → ref_at written x i ≡ ref_at s x i
  refs-same x i holds less = elim (cases_eq x a) as (λ _. ref_at written x i ≡ ref_at s x i) [
    | inl same ↦ stores.word-other s model.order a place n held (omega arith) (omega arith) (x + 3 + i)
        (λ e. let few : i < refs_at s a = subst (λ (y : ℕ). i < refs_at s y) same less in omega arith)
    | inr other ↦ ap (word_at written) (add_assoc x 3 i) ∙ other-word x (3 + i) holds (omega arith) other ∙ ap (word_at s) (sym (add_assoc x 3 i))
  ]

  number-other : (x k : ℕ) → IsHeld s x → k < nums_at s x → (x ≡ a → k ≢ j) → num_at written x k ≡ num_at s x k
  number-other x k holds less differ =
      number-place s (slice_set s.words (a + place) n) keeps x k holds
      ∙ elim (cases_eq x a) as (λ _. word_at written (x + 3 + refs_at s x + k) ≡ word_at s (x + 3 + refs_at s x + k)) [
        | inl same ↦ stores.word-other s model.order a place n held (omega arith) (omega arith) (x + 3 + refs_at s x + k)
            (λ e. let refs : refs_at s x ≡ refs_at s a = ap (refs_at s) same in differ same (omega arith))
        | inr other ↦ (let e : x + 3 + refs_at s x + k ≡ x + (3 + refs_at s x + k) = omega arith in
            ap (word_at written) e ∙ other-word x (3 + refs_at s x + k) holds (omega arith) other ∙ ap (word_at s) (sym e))
      ]

  own-number : num_at written a j ≡ n
  own-number = number-place s (slice_set s.words (a + place) n) keeps a j held
      ∙ stores.word-same s model.order a place n held (omega arith) (omega arith) (a + 3 + refs_at s a + j) (omega arith)

  own-fields : (x : ℕ) → IsHeld s x → fields_at written x ≡ fields_at s x
  own-fields x holds = fields-same s (slice_set s.words (a + place) n) keeps x holds
      (λ i less. ap (field_of_word written) (refs-same x i holds less)
      ∙ field-same s (slice_set s.words (a + place) n) keeps (ref_at s x i) (model.order.objects.references x i holds less))

  own-numbers : numbers_at written a ≡ slice_set (numbers_at s a) j n
  own-numbers =
      ap (λ k. map (λ q. num_at written a q) (range_with_len 0 k)) (nums-after s (slice_set s.words (a + place) n) keeps a held)
      ∙ map-range-set 0 (λ k. num_at written a k) (λ k. num_at s a k) (nums_at s a) j within (λ k other less. number-other a k held less (λ same. other))
      ∙ ap (λ v. slice_set (numbers_at s a) j v) own-number

  own-record : put_number (record_of h (name_at s a)) j n ≡ record_at written a
  own-record =
      ap (λ r. put_number (unwrap_or r no_fields) j n) (model.mirrors.records a there)
      ∙ record-parts (fields_at s a) (fields_at written a) (slice_set (numbers_at s a) j n) (numbers_at written a) (sym (own-fields a held)) (sym own-numbers)

  other-record : (x : ℕ) → IsHeld s x → x ≢ a → record_at written x ≡ record_at s x
  other-record x holds other = record-same s (slice_set s.words (a + place) n) keeps x holds
      (λ i less. ap (field_of_word written) (refs-same x i holds less)
      ∙ field-same s (slice_set s.words (a + place) n) keeps (ref_at s x i) (model.order.objects.references x i holds less))
      (λ k less. number-other x k holds less (λ same. absurd (other same)))

  pub number-set : RepresentsOn written ms (set_record h (name_at s a) (put_number (record_of h (name_at s a)) j n)) set
  number-set = store-models s (slice_set s.words (a + place) n) keeps ms h set model (name_at s a) (put_number (record_of h (name_at s a)) j n)
      (stores.words-fit s model.order a place n held (omega arith) (omega arith) fits)
      (stores.pins-same s model.order a place n held (omega arith) (omega arith))
      (stores.globals-same s model.order a place n held (omega arith) (omega arith))
      (λ x i holds less. subst (IsRefField s) (sym (refs-same x i holds less)) (model.order.objects.references x i holds less))
      (λ x i inset less some. let same : ref_at written x i ≡ ref_at s x i = refs-same x i (model.mirrors.held x inset) less in
      subst set (sym same) (model.mirrors.fields x i inset less (subst (λ (y : ℕ). IsTrue (is_reference y)) same some)))
      (λ x inset. elim (cases_eq x a) as (λ _. at_name h.records (name_at s a) (Some (put_number (record_of h (name_at s a)) j n)) (name_at s x) ≡ Some (record_at written x)) [
        | inl same ↦ ap (λ y. at_name h.records (name_at s a) (Some (put_number (record_of h (name_at s a)) j n)) (name_at s y)) same
            ∙ at_name-same h.records (name_at s a) (Some (put_number (record_of h (name_at s a)) j n))
            ∙ ap (λ r. Some r) (own-record ∙ ap (record_at written) (sym same))
        | inr other ↦ at_name-other h.records (name_at s a) (Some (put_number (record_of h (name_at s a)) j n)) (name_at s x)
            (λ e. other (model.order.objects.names x a (model.mirrors.held x inset) held e))
            ∙ model.mirrors.records x inset
            ∙ ap (λ r. Some r) (sym (other-record x (model.mirrors.held x inset) other))
      ])
