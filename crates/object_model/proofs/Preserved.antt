-- A heap whose objects are preserved represents the same ideal heap.
use Rattle.std.proofs.Common.{◌≡◌, ◌≢◌, refl, sym, ◌∙◌, ap, subst, ℕ, zero, suc, ◌<◌, ◌≤◌, ◌↔◌, true, false, inl, inr, arith, IsTrue, Bool, List, [], ◌∷◌, ◌++◌, slice_index, map, None, Some, Option}
use Rattle.std.specs.List.{AllByRecursion, Any, range_with_len}
use Rattle.std.proofs.lemmas.Bool.{cond-true, cond-false}
use Rattle.std.proofs.lemmas.List.{length-map, map-append}
use Rattle.ideal_heap.specs.declared.name.Name.{Name}
use Rattle.ideal_heap.specs.Ideal.{IdealHeap, Nil, At, IsConfined}
use Rattle.object_model.specs.Objects.{HeapState, global_at, is_pinned, IsHeld, name_at, refs_at, nums_at, ref_at, num_at, record_at, field_of_word, is_reference}
use Rattle.object_model.specs.Lawful.{IsWellFormed}
use Rattle.object_model.specs.Graphs.{MutatorState, IsMutatorState, AreDifferent, PointsTo, IsReachable, Represents, numbers_of, roots_of, register_at}
use Rattle.object_model.specs.Preserving.{PreservesObjects, field_after}
use Rattle.object_model.specs.Agreement.{RepresentsOn}
use Rattle.object_model.proofs.Records.{record-parts, fields_at, numbers_at}
use Rattle.object_model.proofs.References.{refers-cases, held-refers}
use Rattle.object_model.proofs.Registers.{all-map, all-both, any-map}
use Rattle.object_model.proofs.Representation as representation
use Rattle.object_model.proofs.Representation.{word-named, nil-word}
use Rattle.object_model.proofs.Updates.{map-range-same}

abbrev pub at_targets : (ℕ → ℕ) → MutatorState → MutatorState
at_targets target m = record m { registers = map target m.registers }

numbers-moved : (target : ℕ → ℕ) (ms : List MutatorState) → numbers_of (map (at_targets target) ms) ≡ numbers_of ms
numbers-moved target [] = refl
numbers-moved target (m ∷ ms) = ap (λ xs. m.number ∷ xs) (numbers-moved target ms)

pub roots-moved : (target : ℕ → ℕ) (ms : List MutatorState) → map target (roots_of ms) ≡ roots_of (map (at_targets target) ms)
roots-moved target [] = refl
roots-moved target (m ∷ ms) = map-append target m.registers (roots_of ms) ∙ ap (λ xs. map target m.registers ++ xs) (roots-moved target ms)

at-moved : (target : ℕ → ℕ) → target 0 ≡ 0 → (xs : List ℕ) (d : ℕ) → slice_index (map target xs) d ≡ target (slice_index xs d)
at-moved target nil [] d = sym nil
at-moved target nil (x ∷ xs) zero = refl
at-moved target nil (x ∷ xs) (suc d) = at-moved target nil xs d

module _ (moves : ℕ → Bool) (old new : HeapState) (ms : List MutatorState) (h : IdealHeap) (roots' : List ℕ) (target : ℕ → ℕ)
    (order : IsWellFormed old) (order' : IsWellFormed new) (kept : PreservesObjects moves old (roots_of ms) (IsHeld new) new roots' target) where
  abbrev after : List MutatorState
  after = map (at_targets target) ms

  module _ (standing : Represents old ms h) where
    abbrev Arrives : ℕ → Type 0
    Arrives a = IsReachable old (roots_of ms) a

    abbrev Arrived : ℕ → Type 0
    Arrived x = (a : ℕ) × Arrives a × (target a ≡ x)

    model : RepresentsOn old ms h Arrives
    model = representation.models old ms h order standing

    some-after : (a : ℕ) → Arrives a → 0 < target a
    some-after a arrives = kept.reached a arrives

    -- a word that is not nil afterwards was not nil before
    some-before : (v : ℕ) → target v ≢ 0 → v ≢ 0
    some-before v some nil = some (ap target nil ∙ kept.nil)

    points : (v : ℕ) (o : Option Name) → (v ≢ 0 → Arrives v) → PointsTo old v o → PointsTo new (target v) o
    points v None arrives nil = ap target nil ∙ kept.nil
    points v (Some n) arrives there =
        let some : 0 < target v = some-after v (arrives (λ nil. let p : 0 < v = there.0 in omega arith)) in
        (some, kept.there v some, (kept.same v some).name ∙ there.2)

    field-same : (a i : ℕ) → Arrives a → i < refs_at old a → field_of_word new (ref_at new (target a) i) ≡ field_of_word old (ref_at old a i)
    field-same a i arrives within =
        let v : ℕ = ref_at old a i in
        ap (field_of_word new) (kept.fields a i (some-after a arrives) within)
        ∙ elim (refers-cases v) as (λ _. field_of_word new (field_after target v) ≡ field_of_word old v) [
          | inl nil ↦ ap (field_of_word new) (cond-false (is_reference v) (target v) v nil) ∙ nil-word new v nil ∙ sym (nil-word old v nil)
          | inr some ↦
              let there : 0 < target v = kept.closed a i (some-after a arrives) within some in
              ap (field_of_word new) (cond-true (is_reference v) (target v) v some)
              ∙ word-named new (target v) (held-refers new (target v) (kept.there v there))
              ∙ ap (λ n. At n) (kept.same v there).name ∙ sym (word-named old v some)
        ]

    record-same : (a : ℕ) → Arrives a → record_at new (target a) ≡ record_at old a
    record-same a arrives =
        let same = kept.same a (some-after a arrives) in
        record-parts (fields_at new (target a)) (fields_at old a) (numbers_at new (target a)) (numbers_at old a)
        (ap (λ n. map (λ i. field_of_word new (ref_at new (target a) i)) (range_with_len 0 n)) same.refs
        ∙ map-range-same Nil (λ i. field_of_word new (ref_at new (target a) i)) (λ i. field_of_word old (ref_at old a i)) (refs_at old a) (λ i. field-same a i arrives))
        (ap (λ n. map (λ j. num_at new (target a) j) (range_with_len 0 n)) same.nums
        ∙ map-range-same 0 (λ j. num_at new (target a) j) (λ j. num_at old a j) (nums_at old a) same.numbers)

    field-arrived : (a i : ℕ) → Arrives a → i < refs_at new (target a) → IsTrue (is_reference (ref_at new (target a) i)) → Arrived (ref_at new (target a) i)
    field-arrived a i arrives less some =
        let within : i < refs_at old a = subst (λ (n : ℕ). i < n) (kept.same a (some-after a arrives)).refs less in
        let v : ℕ = ref_at old a i in
        let is : ref_at new (target a) i ≡ field_after target v = kept.fields a i (some-after a arrives) within in
        elim (refers-cases v) as (λ _. Arrived (ref_at new (target a) i)) [
          | inl nil ↦ absurd (let wrong : false ≡ true = sym nil ∙ subst (λ (x : ℕ). IsTrue (is_reference x)) (is ∙ cond-false (is_reference v) (target v) v nil) some in cc)
          | inr there ↦ (v, model.mirrors.fields a i arrives within there, sym (is ∙ cond-true (is_reference v) (target v) v there))
        ]

    registers-arrived : AllByRecursion (λ m. (d : ℕ) → d < 16 → register_at m d ≢ 0 → Arrived (register_at m d)) after
    registers-arrived = all-map (λ m. (d : ℕ) → d < 16 → register_at m d ≢ 0 → Arrives (register_at m d)) (λ m. (d : ℕ) → d < 16 → register_at m d ≢ 0 → Arrived (register_at m d)) (at_targets target)
        (λ m arrives d small some.
        let is : register_at (at_targets target m) d ≡ target (register_at m d) = at-moved target kept.nil m.registers d in
        (register_at m d, arrives d small (some-before (register_at m d) (λ nil. some (is ∙ nil))), sym is)) ms model.mirrors.registers

    registers-point : AllByRecursion (λ m. (d : ℕ) → d < 16 → PointsTo new (register_at m d) (h.registers m.number d)) after
    registers-point = all-map
        (λ m. ((d : ℕ) → d < 16 → register_at m d ≢ 0 → Arrives (register_at m d)) × ((d : ℕ) → d < 16 → PointsTo old (register_at m d) (h.registers m.number d)))
        (λ m. (d : ℕ) → d < 16 → PointsTo new (register_at m d) (h.registers m.number d)) (at_targets target)
        (λ m both d small. subst (λ (v : ℕ). PointsTo new v (h.registers m.number d)) (sym (at-moved target kept.nil m.registers d))
        (points (register_at m d) (h.registers m.number d) (both.0 d small) (both.1 d small))) ms
        (all-both _ _ ms model.mirrors.registers standing.pointers.registers)

    models : RepresentsOn new after h Arrived
    models = record {
      order = order';
      mutators = record {
        each = all-map IsMutatorState IsMutatorState (at_targets target)
            (λ m is. record { least = is.least; most = is.most; registers = length-map m.registers target ∙ is.registers }) ms standing.mutators.each;
        differ = subst AreDifferent (sym (numbers-moved target ms)) standing.mutators.differ;
      };
      pointers = record {
        registers = registers-point;
        globals = λ g small. subst (λ (v : ℕ). PointsTo new v (h.globals g)) (sym (kept.globals g small))
            (points (global_at old g) (h.globals g) (model.mirrors.globals g small) (standing.pointers.globals g small));
        confined = subst (λ (ns : List ℕ). IsConfined ns h) (sym (numbers-moved target ms)) standing.pointers.confined;
      };
      births = record {
        births = all-map (λ m. h.births m.number ≡ m.births) (λ m. h.births m.number ≡ m.births) (at_targets target) (λ m is. is) ms standing.births.births;
        held = λ x holds.
            let from = kept.onto x holds in
            let a : ℕ = from.0 in
            let named : name_at new x ≡ name_at old a = ap (name_at new) (sym from.2) ∙ (kept.same a from.1).name in
            subst (λ (k : Name). Any (λ m. (k.mutator ≡ m.number) × (k.birth ≤ m.births)) after) (sym named)
            (any-map (λ m. ((name_at old a).mutator ≡ m.number) × ((name_at old a).birth ≤ m.births)) (λ m. ((name_at old a).mutator ≡ m.number) × ((name_at old a).birth ≤ m.births))
            (at_targets target) (λ m is. is) ms (standing.births.held a (kept.held a from.1)));
        pinned = λ n is. all-map (λ m. n.mutator ≡ m.number → n.birth ≤ m.births) (λ m. n.mutator ≡ m.number → n.birth ≤ m.births) (at_targets target) (λ m few. few) ms (standing.births.pinned n is);
      };
      mirrors = record {
        held = λ x there. subst (IsHeld new) there.2 (kept.there there.0 (some-after there.0 there.1));
        fields = λ x i there less some. subst (λ (y : ℕ). Arrived (ref_at new y i)) there.2 (field-arrived there.0 i there.1
            (subst (λ (y : ℕ). i < refs_at new y) (sym there.2) less) (subst (λ (y : ℕ). IsTrue (is_reference (ref_at new y i))) (sym there.2) some));
        registers = registers-arrived;
        globals = λ g small some.
            let is : global_at new g ≡ target (global_at old g) = kept.globals g small in
            (global_at old g, model.mirrors.globals g small (some-before (global_at old g) (λ nil. some (is ∙ nil))), sym is);
        records = λ x there. subst (λ (y : ℕ). h.records (name_at new y) ≡ Some (record_at new y)) there.2
            (ap h.records (kept.same there.0 (some-after there.0 there.1)).name ∙ model.mirrors.records there.0 there.1 ∙ ap (λ r. Some r) (sym (record-same there.0 there.1)));
        pins = λ x there. subst (λ (y : ℕ). IsTrue (is_pinned new y) ↔ IsTrue (h.pinned (name_at new y))) there.2
            (let same = kept.same there.0 (some-after there.0 there.1) in
            let was = model.mirrors.pins there.0 there.1 in
            (λ pinned. ap h.pinned same.name ∙ was.0 (sym same.pin ∙ pinned), λ pinned. same.pin ∙ was.1 (ap h.pinned (sym same.name) ∙ pinned)));
      };
    }

    pub represents : Represents new after h
    represents = representation.represents new after h Arrived models
