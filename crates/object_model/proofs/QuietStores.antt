-- A step that changes no word of an object, no global and no pin keeps the heap standing: a store beside all objects, a cleared
-- unlog bit, a step on the stop word or the budget word.
use Rattle.std.proofs.Common.{◌≡◌, sym, ◌∙◌, ap, subst, ℕ, ◌+◌, ◌^◌, ◌<◌, ◌≤◌, arith, Bool, IsTrue, List, Some, ◌↔◌, add_assoc}
use Rattle.std.specs.List.{Any}
use Rattle.std.proofs.lemmas.Bool.{or_left}
use Rattle.ideal_heap.specs.declared.name.Name.{Name}
use Rattle.ideal_heap.specs.Ideal.{IdealHeap}
use Rattle.object_model.specs.Objects.{HeapState, with_words, word_at, is_pinned, is_unlogged, IsHeld, name_at, refs_at, nums_at, size_at, ref_at, num_at, record_at, global_at, field_of_word, is_reference}
use Rattle.object_model.specs.Lawful.{IsWellFormed, IsRefField, IsRoot}
use Rattle.object_model.specs.Graphs.{MutatorState, PointsTo}
use Rattle.object_model.specs.Agreement.{RepresentsOn}
use Rattle.object_model.specs.Changes.{ObjectsStay}
use Rattle.object_model.proofs.Frames.{orderly-after, held-after, held-before, refs-after, name-after}
use Rattle.object_model.proofs.Records.{record-same, field-same, number-place}
use Rattle.object_model.proofs.Numbers.{points-after, registers-after}

module _ (s : HeapState) (w : List ℕ) (keeps : ObjectsStay s (with_words s w)) (order : IsWellFormed s)
    (fit : (i : ℕ) → word_at (with_words s w) i < 2 ^ 64)
    (pins : (a : ℕ) → is_pinned (with_words s w) a ≡ is_pinned s a)
    (globals : (g : ℕ) → g < 16 → global_at (with_words s w) g ≡ global_at s g)
    (objects : (x i : ℕ) → IsHeld s x → i < size_at s x → word_at (with_words s w) (x + i) ≡ word_at s (x + i)) where
  abbrev after : HeapState
  after = with_words s w

  ref-kept : (x i : ℕ) → IsHeld s x → i < refs_at s x → ref_at after x i ≡ ref_at s x i
  ref-kept x i holds less = ap (word_at after) (add_assoc x 3 i) ∙ objects x (3 + i) holds (omega arith) ∙ ap (word_at s) (sym (add_assoc x 3 i))

  pub quiet-order : IsWellFormed after
  quiet-order = orderly-after s w keeps order fit
      (λ a pin. order.objects.marks a (or_left (is_pinned s a) (is_unlogged s a) (sym (pins a) ∙ pin)))
      (λ a i holds less. subst (IsRefField s) (sym (ref-kept a i holds less)) (order.objects.references a i holds less))
      (λ g small. subst (IsRoot s) (sym (globals g small)) (order.objects.globals g small))

  number-kept : (x j : ℕ) → IsHeld s x → j < nums_at s x → num_at after x j ≡ num_at s x j
  number-kept x j holds less =
      let e : x + 3 + refs_at s x + j ≡ x + (3 + refs_at s x + j) = omega arith in
      number-place s w keeps x j holds ∙ ap (word_at after) e ∙ objects x (3 + refs_at s x + j) holds (omega arith) ∙ ap (word_at s) (sym e)

  record-kept : (x : ℕ) → IsHeld s x → record_at after x ≡ record_at s x
  record-kept x holds = record-same s w keeps x holds
      (λ i less. ap (field_of_word after) (ref-kept x i holds less) ∙ field-same s w keeps (ref_at s x i) (order.objects.references x i holds less))
      (λ j less. number-kept x j holds less)

  pub quiet-models : (ms : List MutatorState) (h : IdealHeap) (set : ℕ → Type 0) → RepresentsOn s ms h set → RepresentsOn after ms h set
  quiet-models ms h set model = record {
    order = quiet-order;
    mutators = model.mutators;
    pointers = record {
      registers = registers-after s w keeps h ms model.pointers.registers;
      globals = λ g small. subst (λ v. PointsTo after v (h.globals g)) (sym (globals g small)) (points-after s w keeps (global_at s g) (h.globals g) (model.pointers.globals g small));
      confined = model.pointers.confined;
    };
    births = record {
      births = model.births.births;
      held = λ a there. let before = held-before s w keeps a there in
          subst (λ (k : Name). Any (λ m. (k.mutator ≡ m.number) × (k.birth ≤ m.births)) ms) (sym (name-after s w keeps a before)) (model.births.held a before);
      pinned = model.births.pinned;
    };
    mirrors = record {
      held = λ a there. held-after s w keeps a (model.mirrors.held a there);
      fields = λ a i there less some. let holds = model.mirrors.held a there in
          let few : i < refs_at s a = subst (λ (k : ℕ). i < k) (refs-after s w keeps a holds) less in
          let same : ref_at after a i ≡ ref_at s a i = ref-kept a i holds few in
          subst set (sym same) (model.mirrors.fields a i there few (subst (λ (y : ℕ). IsTrue (is_reference y)) same some));
      registers = model.mirrors.registers;
      globals = λ g small some. subst set (sym (globals g small)) (model.mirrors.globals g small (λ nil. some (globals g small ∙ nil)));
      records = λ a there. let holds = model.mirrors.held a there in
          ap h.records (name-after s w keeps a holds) ∙ model.mirrors.records a there ∙ ap (λ x. Some x) (sym (record-kept a holds));
      pins = λ a there. let e : name_at after a ≡ name_at s a = name-after s w keeps a (model.mirrors.held a there) in
          subst (λ (k : Name). IsTrue (is_pinned after a) ↔ IsTrue (h.pinned k)) (sym e)
          (subst (λ (b : Bool). IsTrue b ↔ IsTrue (h.pinned (name_at s a))) (sym (pins a)) (model.mirrors.pins a there));
    };
  }
