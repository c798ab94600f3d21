-- A pin bit is set or cleared, in the heap and in the ideal heap.
use Rattle.std.proofs.Common.{◌≡◌, ◌≢◌, refl, sym, ◌∙◌, ap, subst, ℕ, ◌+◌, ◌*◌, ◌-◌, ◌/◌, ◌%◌, ◌<◌, ◌≤◌, ◌⊎◌, inl, inr, arith, Bool, IsTrue, List, Some, nat_eq, ◌↔◌}
use Rattle.std.specs.Int.{bit_at}
use Rattle.std.specs.List.{AllByRecursion, Any}
use Rattle.std.proofs.lemmas.Bool.{cases_eq, or_left}
use Rattle.heap_layout.specs.Zones.{Zone, StartBits, PinBits, UnlogBits, LineWords, BlockWords, Globals, row_words, heap_of, first, bit_of}
use Rattle.ideal_heap.specs.declared.name.Name.{Name}
use Rattle.ideal_heap.specs.Names.{name}
use Rattle.ideal_heap.specs.Ideal.{IdealHeap, set_pinned, at_name}
use Rattle.ideal_heap.proofs.UpdateLemmas.{at_name-same, at_name-other}
use Rattle.object_model.specs.Objects.{HeapState, with_words, word_at, global_at, is_pinned, is_unlogged, IsHeld, name_at, refs_at, ref_at, record_at, field_of_word, is_reference}
use Rattle.object_model.specs.Lawful.{IsWellFormed, IsRefField, IsRoot}
use Rattle.object_model.specs.Graphs.{MutatorState, PointsTo}
use Rattle.object_model.specs.Agreement.{RepresentsOn}
use Rattle.object_model.specs.Changes.{ObjectsStay, SetsPin}
use Rattle.object_model.proofs.Among.{one-number}
use Rattle.object_model.proofs.Marks.{mark-same}
use Rattle.object_model.proofs.Frames.{orderly-after, held-after, held-before, refs-after, name-after}
use Rattle.object_model.proofs.Records.{record-same, field-same, number-place}
use Rattle.object_model.proofs.Numbers.{points-after, registers-after}

-- two names are equal or not
pub name-cases : (n k : Name) → (n ≡ k) ⊎ (n ≢ k)
name-cases n k = elim (cases_eq n.mutator k.mutator) as (λ _. (n ≡ k) ⊎ (n ≢ k)) [
  | inl m ↦ elim (cases_eq n.birth k.birth) as (λ _. (n ≡ k) ⊎ (n ≢ k)) [
    | inl b ↦ inl (ap (λ x. name x n.birth) m ∙ ap (λ x. name k.mutator x) b)
    | inr other ↦ inr (λ e. other (ap (λ x. x.birth) e))
  ]
  | inr other ↦ inr (λ e. other (ap (λ x. x.mutator) e))
]

-- equal Booleans are equivalent
pub iff-both : (p q b : Bool) → p ≡ b → q ≡ b → IsTrue p ↔ IsTrue q
iff-both p q b left right = (λ is. right ∙ sym left ∙ is, λ is. left ∙ sym right ∙ is)

module _ (s : HeapState) (w : List ℕ) (a : ℕ) (b : Bool) (sets : SetsPin s (with_words s w) a b) where
  abbrev pinned : HeapState
  pinned = with_words s w

  bit-before : (z : Zone) (n : ℕ) → first s.blocks z + n / 64 < first s.blocks PinBits → bit_of s.blocks z w n ≡ bit_of s.blocks z s.words n
  bit-before z n before = ap (λ word. nat_eq (bit_at word (n % 64)) 1) (sets.rest (first s.blocks z + n / 64) (inl before))

  heap-word : (x i : ℕ) → IsHeld s x → word_at pinned (x + i) ≡ word_at s (x + i)
  heap-word x i holds = sets.rest (x + i) (inr (let from : heap_of s.blocks ≤ x = holds.address.from in omega arith))

  pub keeps : ObjectsStay s pinned
  keeps = record {
    blocks = refl;
    number = refl;
    base = refl;
    extent = sets.extent;
    starts = λ x. mark-same s.blocks StartBits s.words w x (λ there. bit-before StartBits (x - heap_of s.blocks)
        (let from : heap_of s.blocks ≤ x = there.from in let below : x < row_words s.blocks = there.below in omega arith));
    unlogs = λ x set. sym (mark-same s.blocks UnlogBits s.words w x (λ there.
        ap (λ word. nat_eq (bit_at word ((x - heap_of s.blocks) % 64)) 1) (sets.rest (first s.blocks UnlogBits + (x - heap_of s.blocks) / 64) (inr (omega arith))))) ∙ set;
    lines = λ k line there few. bit-before LineWords (256 * k + line) (omega arith);
    block_words = λ k there. sets.rest (first s.blocks BlockWords + k) (inl (omega arith));
    headers = λ x i holds few. heap-word x i holds;
  }

  pub globals-same : (g : ℕ) → g < 16 → global_at pinned g ≡ global_at s g
  globals-same g few = sets.rest (first s.blocks Globals + g) (inl (omega arith))

  pub pins-held : IsWellFormed s → IsHeld s a → (x : ℕ) → IsTrue (is_pinned pinned x) → IsHeld s x
  pins-held order held x pin = elim (cases_eq x a) as (λ _. IsHeld s x) [
    | inl same ↦ subst (IsHeld s) (sym same) held
    | inr other ↦ order.objects.marks x (or_left (is_pinned s x) (is_unlogged s x) (sym (sets.others x other) ∙ pin))
  ]

  ref-kept : (x i : ℕ) → IsHeld s x → ref_at pinned x i ≡ ref_at s x i
  ref-kept x i holds = sets.rest (x + 3 + i) (inr (let from : heap_of s.blocks ≤ x = holds.address.from in omega arith))

  record-kept : IsWellFormed s → (x : ℕ) → IsHeld s x → record_at pinned x ≡ record_at s x
  record-kept order x holds = record-same s w keeps x holds
      (λ i less. ap (field_of_word pinned) (ref-kept x i holds) ∙ field-same s w keeps (ref_at s x i) (order.objects.references x i holds less))
      (λ j less. number-place s w keeps x j holds
      ∙ sets.rest (x + 3 + refs_at s x + j) (inr (let from : heap_of s.blocks ≤ x = holds.address.from in omega arith)))

  module _ (ms : List MutatorState) (h : IdealHeap) (set : ℕ → Type 0) (model : RepresentsOn s ms h set) (there : set a) where
    held : IsHeld s a
    held = model.mirrors.held a there

    -- a pinned name was pinned before, or is the object's
    pinned-births : (n : Name) → IsTrue (at_name h.pinned (name_at s a) b n) → AllByRecursion (λ m. n.mutator ≡ m.number → n.birth ≤ m.births) ms
    pinned-births n is = elim (name-cases n (name_at s a)) as (λ _. AllByRecursion (λ m. n.mutator ≡ m.number → n.birth ≤ m.births) ms) [
      | inl same ↦ subst (λ (k : Name). AllByRecursion (λ m. k.mutator ≡ m.number → k.birth ≤ m.births) ms) (sym same)
          (one-number (λ m. (name_at s a).birth ≤ m.births) (name_at s a).mutator ms model.mutators.differ (model.births.held a held))
      | inr other ↦ model.births.pinned n (sym (at_name-other h.pinned (name_at s a) b n other) ∙ is)
    ]

    pins-each : (x : ℕ) → set x → IsTrue (is_pinned pinned x) ↔ IsTrue (at_name h.pinned (name_at s a) b (name_at s x))
    pins-each x inside = elim (cases_eq x a) as (λ _. IsTrue (is_pinned pinned x) ↔ IsTrue (at_name h.pinned (name_at s a) b (name_at s x))) [
      | inl same ↦ iff-both (is_pinned pinned x) (at_name h.pinned (name_at s a) b (name_at s x)) b (ap (is_pinned pinned) same ∙ sets.pin)
          (ap (λ y. at_name h.pinned (name_at s a) b (name_at s y)) same ∙ at_name-same h.pinned (name_at s a) b)
      | inr other ↦
          let left : is_pinned pinned x ≡ is_pinned s x = sets.others x other in
          let right : at_name h.pinned (name_at s a) b (name_at s x) ≡ h.pinned (name_at s x) =
          at_name-other h.pinned (name_at s a) b (name_at s x) (λ e. other (model.order.objects.names x a (model.mirrors.held x inside) held e)) in
          let old = model.mirrors.pins x inside in
          (λ is. right ∙ old.0 (sym left ∙ is), λ is. left ∙ old.1 (sym right ∙ is))
    ]

    pub pin-models : RepresentsOn pinned ms (set_pinned h (name_at s a) b) set
    pin-models = record {
      order = orderly-after s w keeps model.order sets.words (pins-held model.order held)
          (λ x i holds less. subst (IsRefField s) (sym (ref-kept x i holds)) (model.order.objects.references x i holds less))
          (λ g few. subst (IsRoot s) (sym (globals-same g few)) (model.order.objects.globals g few));
      mutators = model.mutators;
      pointers = record {
        registers = registers-after s w keeps h ms model.pointers.registers;
        globals = λ g few. subst (λ v. PointsTo pinned v (h.globals g)) (sym (globals-same g few)) (points-after s w keeps (global_at s g) (h.globals g) (model.pointers.globals g few));
        confined = record { registers = model.pointers.confined.registers; globals = model.pointers.confined.globals };
      };
      births = record {
        births = model.births.births;
        held = λ x inside. let before = held-before s w keeps x inside in
            subst (λ (k : Name). Any (λ m. (k.mutator ≡ m.number) × (k.birth ≤ m.births)) ms) (sym (name-after s w keeps x before)) (model.births.held x before);
        pinned = pinned-births;
      };
      mirrors = record {
        held = λ x inside. held-after s w keeps x (model.mirrors.held x inside);
        fields = λ x i inside less some. let holds = model.mirrors.held x inside in
            subst set (sym (ref-kept x i holds)) (model.mirrors.fields x i inside (subst (λ (k : ℕ). i < k) (refs-after s w keeps x holds) less) (subst (λ (y : ℕ). IsTrue (is_reference y)) (ref-kept x i holds) some));
        registers = model.mirrors.registers;
        globals = λ g few some. subst set (sym (globals-same g few)) (model.mirrors.globals g few (λ nil. some (globals-same g few ∙ nil)));
        records = λ x inside. let holds = model.mirrors.held x inside in
            ap h.records (name-after s w keeps x holds) ∙ model.mirrors.records x inside ∙ ap (λ y. Some y) (sym (record-kept model.order x holds));
        pins = λ x inside. subst (λ (k : Name). IsTrue (is_pinned pinned x) ↔ IsTrue (at_name h.pinned (name_at s a) b k))
            (sym (name-after s w keeps x (model.mirrors.held x inside))) (pins-each x inside);
      };
    }
