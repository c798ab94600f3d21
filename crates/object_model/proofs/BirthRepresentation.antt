-- An allocation, in the heap, in the mutators and in the ideal heap.
use Rattle.std.proofs.Common.{◌≡◌, ◌≢◌, refl, sym, ◌∙◌, ap, subst, ℕ, zero, suc, ◌+◌, ◌<◌, ◌≤◌, ◌⊎◌, inl, inr, arith, Bool, IsTrue, List, [], ◌∷◌, length, Some, None, Option, map, replicate, slice_index, ◌↔◌}
use Rattle.std.specs.List.{AllByRecursion, Any, Contains, range_with_len}
use Rattle.std.proofs.lemmas.List.{get_or_default}
use Rattle.heap_layout.specs.Zones.{heap_of}
use Rattle.std.proofs.lemmas.Bool.{cases_eq, or_left}
use Rattle.ideal_heap.specs.declared.name.Name.{Name}
use Rattle.ideal_heap.specs.Names.{name}
use Rattle.ideal_heap.specs.Ideal.{IdealHeap, Nil, At, set_record, with_new, born, at_number}
use Rattle.ideal_heap.proofs.UpdateLemmas.{at_name-same, at_name-other, at_number-other}
use Rattle.object_model.specs.Objects.{HeapState, with_words, word_at, is_pinned, is_unlogged, IsHeld, name_at, refs_at, nums_at, ref_at, num_at, record_at, global_at, field_of_word, is_reference}
use Rattle.object_model.specs.Lawful.{IsWellFormed}
use Rattle.object_model.specs.Graphs.{MutatorState, IsMutatorState, AreDifferent, PointsTo, register_at, numbers_of, with_birth, add_birth, set_register_of}
use Rattle.object_model.specs.Agreement.{RepresentsOn}
use Rattle.object_model.specs.Births.{IsVacant}
use Rattle.object_model.proofs.Births as births
use Rattle.object_model.proofs.Births.{Adds}
use Rattle.object_model.proofs.Records.{record-parts, fields_at, numbers_at}
use Rattle.object_model.proofs.Representation.{word-named, nil-word}
use Rattle.object_model.proofs.References.{refers-cases, nil-refers, refers-some}
use Rattle.object_model.proofs.Registers.{all-map, all-both, any-map, changed, changed-keeps, changed-from, changed-yes, changed-no, changed-each, numbers-changed, register-models}
use Rattle.object_model.proofs.Updates.{at_number-same, map-range-same, map-range-all}

-- a mutator of that number, with what holds of each
any-here : {X : Type 0} (P : X → Type 0) (x : X) (xs : List X) → P x → Any P (x ∷ xs)
any-here P x xs p = (0, x, omega arith, refl, p)

any-there : {X : Type 0} (P : X → Type 0) (x : X) (xs : List X) → Any P xs → Any P (x ∷ xs)
any-there P x xs any = (suc any.0, any.1, (let there : any.0 < length xs = any.2 in omega arith), any.3, any.4)

at-number : (P : MutatorState → Type 0) (m : ℕ) (ms : List MutatorState) (k : ℕ) → k < length (numbers_of ms) → slice_index (numbers_of ms) k ≡ m → AllByRecursion P ms
    → Any (λ x. P x × (x.number ≡ m)) ms
at-number P m [] k within is all = absurd (omega arith)
at-number P m (x ∷ xs) zero within is all = any-here (λ y. P y × (y.number ≡ m)) x xs (all.0, is)
at-number P m (x ∷ xs) (suc k) within is all = any-there (λ y. P y × (y.number ≡ m)) x xs (at-number P m xs k (omega arith) is all.1)

pub any-number : (P : MutatorState → Type 0) (m : ℕ) (ms : List MutatorState) → Contains (numbers_of ms) m → AllByRecursion P ms → Any (λ x. P x × (x.number ≡ m)) ms
any-number P m ms known all = at-number P m ms known.0 known.1 (sym (get_or_default (numbers_of ms) known.0 m 0 known.1) ∙ known.2) all

module _ (s : HeapState) (w : List ℕ) (ms : List MutatorState) (h : IdealHeap) (set : ℕ → Type 0) (model : RepresentsOn s ms h set)
    (m d a refs nums : ℕ) (adds : Adds s w a (name m (h.births m + 1)) refs nums) (vacant : IsVacant s a (name m (h.births m + 1)) refs nums)
    (order-after : IsWellFormed (with_words s w)) (small : d < 16) (known : Contains (numbers_of ms) m) where
  abbrev n : Name
  n = name m (h.births m + 1)

  abbrev after : HeapState
  after = with_words s w

  -- the ideal heap with the record, before the register is set
  abbrev with_record : IdealHeap
  with_record = record (set_record h n (born refs nums)) { births = at_number h.births m (h.births m + 1) }

  abbrev pub joined : ℕ → Type 0
  joined x = set x ⊎ (x ≡ a)

  order : IsWellFormed s
  order = model.order

  in-set-held : (x : ℕ) → set x → IsHeld s x
  in-set-held x there = model.mirrors.held x there

  points-after : (v : ℕ) (o : Option Name) → PointsTo s v o → PointsTo after v o
  points-after v None p = p
  points-after v (Some k) p = (p.0, births.held-after s w a n refs nums adds vacant v p.1, births.name-same s w a n refs nums adds vacant v p.1 ∙ p.2)

  births-each : (x : MutatorState) → h.births x.number ≡ x.births → with_record.births (changed m with_birth x).number ≡ (changed m with_birth x).births
  births-each x e =
      ap (at_number h.births m (h.births m + 1)) (changed-keeps m with_birth (λ y. y.number) (λ y. refl) x)
      ∙ elim (cases_eq x.number m) as (λ _. at_number h.births m (h.births m + 1) x.number ≡ (changed m with_birth x).births) [
        | inl same ↦ at_number-same h.births m (h.births m + 1) x.number same ∙ ap (λ k. k + 1) (ap h.births (sym same) ∙ e) ∙ sym (ap (λ y. y.births) (changed-yes m with_birth x same))
        | inr other ↦ at_number-other h.births m (h.births m + 1) x.number other ∙ e ∙ sym (ap (λ y. y.births) (changed-no m with_birth x other))
      ]

  -- a birth number that was at most a mutator's count still is
  within-each : (k : Name) (x : MutatorState) → (k.mutator ≡ x.number) × (k.birth ≤ x.births) → (k.mutator ≡ (changed m with_birth x).number) × (k.birth ≤ (changed m with_birth x).births)
  within-each k = changed-from m with_birth (λ x. (k.mutator ≡ x.number) × (k.birth ≤ x.births)) (λ x e. (e.0, (let least : k.birth ≤ x.births = e.1 in omega arith)))

  old-births : (x : ℕ) → IsHeld s x → Any (λ y. ((name_at after x).mutator ≡ y.number) × ((name_at after x).birth ≤ y.births)) (add_birth ms m)
  old-births x holds =
      subst (λ (k : Name). Any (λ y. (k.mutator ≡ y.number) × (k.birth ≤ y.births)) (add_birth ms m)) (sym (births.name-same s w a n refs nums adds vacant x holds))
      (any-map (λ y. ((name_at s x).mutator ≡ y.number) × ((name_at s x).birth ≤ y.births)) (λ y. ((name_at s x).mutator ≡ y.number) × ((name_at s x).birth ≤ y.births))
      (changed m with_birth) (within-each (name_at s x)) ms (model.births.held x holds))

  new-births : Any (λ y. ((name_at after a).mutator ≡ y.number) × ((name_at after a).birth ≤ y.births)) (add_birth ms m)
  new-births =
      subst (λ (k : Name). Any (λ y. (k.mutator ≡ y.number) × (k.birth ≤ y.births)) (add_birth ms m)) (sym (births.new-name s w a n refs nums adds vacant))
      (any-map (λ x. (h.births x.number ≡ x.births) × (x.number ≡ m)) (λ y. (m ≡ y.number) × (h.births m + 1 ≤ y.births)) (changed m with_birth) one-more ms
      (any-number (λ x. h.births x.number ≡ x.births) m ms known model.births.births))
    where
      one-more : (x : MutatorState) → (h.births x.number ≡ x.births) × (x.number ≡ m) → (m ≡ (changed m with_birth x).number) × (h.births m + 1 ≤ (changed m with_birth x).births)
      one-more x facts = subst (λ (y : MutatorState). (m ≡ y.number) × (h.births m + 1 ≤ y.births)) (sym (changed-yes m with_birth x facts.1))
          (sym facts.1, (let e : h.births m ≡ x.births = ap h.births (sym facts.1) ∙ facts.0 in omega arith))

  record-old : (x : ℕ) → IsHeld s x → record_at after x ≡ record_at s x
  record-old x holds = record-parts (fields_at after x) (fields_at s x) (numbers_at after x) (numbers_at s x) fields numbers
    where
      field : (i : ℕ) → i < refs_at s x → field_of_word after (ref_at after x i) ≡ field_of_word s (ref_at s x i)
      field i less = ap (field_of_word after) (births.ref-same s w a n refs nums adds vacant x i holds less)
          ∙ elim (refers-cases (ref_at s x i)) as (λ _. field_of_word after (ref_at s x i) ≡ field_of_word s (ref_at s x i)) [
            | inl nil ↦ nil-word after (ref_at s x i) nil ∙ sym (nil-word s (ref_at s x i) nil)
            | inr some ↦ word-named after (ref_at s x i) some
                ∙ ap (λ k. At k) (births.name-same s w a n refs nums adds vacant (ref_at s x i) (order.objects.references x i holds less some))
                ∙ sym (word-named s (ref_at s x i) some)
          ]

      fields : fields_at after x ≡ fields_at s x
      fields = ap (λ k. map (λ i. field_of_word after (ref_at after x i)) (range_with_len 0 k)) (births.refs-same s w a n refs nums adds vacant x holds)
          ∙ map-range-same Nil (λ i. field_of_word after (ref_at after x i)) (λ i. field_of_word s (ref_at s x i)) (refs_at s x) field

      number : (j : ℕ) → j < nums_at s x → num_at after x j ≡ num_at s x j
      number j less =
          let e : x + 3 + refs_at s x + j ≡ x + (3 + refs_at s x + j) = omega arith in
          ap (λ k. word_at after (x + 3 + k + j)) (births.refs-same s w a n refs nums adds vacant x holds)
          ∙ ap (word_at after) e ∙ births.object-word s w a n refs nums adds vacant x (3 + refs_at s x + j) holds (omega arith) ∙ ap (word_at s) (sym e)

      numbers : numbers_at after x ≡ numbers_at s x
      numbers = ap (λ k. map (λ j. num_at after x j) (range_with_len 0 k)) (births.nums-same s w a n refs nums adds vacant x holds)
          ∙ map-range-same 0 (λ j. num_at after x j) (λ j. num_at s x j) (nums_at s x) number

  record-new : record_at after a ≡ born refs nums
  record-new = record-parts (fields_at after a) (replicate refs Nil) (numbers_at after a) (replicate nums 0) fields numbers
    where
      field : (i : ℕ) → i < refs → field_of_word after (ref_at after a i) ≡ Nil
      field i less = nil-word after (ref_at after a i) (nil-refers (ref_at after a i) (births.new-ref s w a n refs nums adds vacant i less))

      fields : fields_at after a ≡ replicate refs Nil
      fields = ap (λ k. map (λ i. field_of_word after (ref_at after a i)) (range_with_len 0 k)) (births.new-refs s w a n refs nums adds vacant)
          ∙ map-range-all Nil (λ i. field_of_word after (ref_at after a i)) refs field

      number : (j : ℕ) → j < nums → num_at after a j ≡ 0
      number j less =
          let e : a + 3 + refs + j ≡ a + (3 + refs + j) = omega arith in
          ap (λ k. word_at after (a + 3 + k + j)) (births.new-refs s w a n refs nums adds vacant)
          ∙ ap (word_at after) e ∙ adds.blank (3 + refs + j) (omega arith) (omega arith)

      numbers : numbers_at after a ≡ replicate nums 0
      numbers = ap (λ k. map (λ j. num_at after a j) (range_with_len 0 k)) (births.new-nums s w a n refs nums adds vacant)
          ∙ map-range-all 0 (λ j. num_at after a j) nums number

  -- no name of the set is the new one
  other-name : (x : ℕ) → set x → name_at s x ≢ n
  other-name x there = vacant.fresh x (in-set-held x there)

  -- the new name is not pinned
  not-pinned : IsTrue (h.pinned n) → ⊥
  not-pinned is =
      let found = any-number (λ x. (m ≡ x.number → h.births m + 1 ≤ x.births) × (h.births x.number ≡ x.births)) m ms known
      (all-both (λ x. m ≡ x.number → h.births m + 1 ≤ x.births) (λ x. h.births x.number ≡ x.births) ms (model.births.pinned n is) model.births.births) in
      let more : h.births m + 1 ≤ found.1.births = found.4.0.0 (sym found.4.1) in
      let same : h.births m ≡ found.1.births = ap h.births (sym found.4.1) ∙ found.4.0.1 in
      omega arith

  not-marked : IsTrue (is_pinned after a) → ⊥
  not-marked is = births.not-held s w a n refs nums adds vacant
      (order.objects.marks a (or_left (is_pinned s a) (is_unlogged s a) (sym (adds.pins a) ∙ is)))

  joined-each : (P : ℕ → Type 0) → ((x : ℕ) → set x → P x) → P a → (x : ℕ) → joined x → P x
  joined-each P old new x (inl there) = old x there
  joined-each P old new x (inr e) = subst P (sym e) new

  registers-each : (x : MutatorState) → ((e : ℕ) → e < 16 → register_at x e ≢ 0 → set (register_at x e)) → (e : ℕ) → e < 16 → register_at (changed m with_birth x) e ≢ 0 → joined (register_at (changed m with_birth x) e)
  registers-each = changed-each m with_birth (λ x. (e : ℕ) → e < 16 → register_at x e ≢ 0 → set (register_at x e)) (λ x. (e : ℕ) → e < 16 → register_at x e ≢ 0 → joined (register_at x e))
      (λ x f e few some. inl (f e few some)) (λ x f e few some. inl (f e few some))

  points-each : (x : MutatorState) → ((e : ℕ) → e < 16 → PointsTo s (register_at x e) (h.registers x.number e)) → (e : ℕ) → e < 16 → PointsTo after (register_at (changed m with_birth x) e) (h.registers (changed m with_birth x).number e)
  points-each = changed-each m with_birth (λ x. (e : ℕ) → e < 16 → PointsTo s (register_at x e) (h.registers x.number e)) (λ x. (e : ℕ) → e < 16 → PointsTo after (register_at x e) (h.registers x.number e))
      (λ x f e few. points-after (register_at x e) (h.registers x.number e) (f e few)) (λ x f e few. points-after (register_at x e) (h.registers x.number e) (f e few))

  -- the object and the mutator's count, before the register is set
  recorded : RepresentsOn after (add_birth ms m) with_record joined
  recorded = record {
    order = order-after;
    mutators = record {
      each = all-map IsMutatorState IsMutatorState (changed m with_birth)
          (changed-from m with_birth IsMutatorState (λ x is. record { least = is.least; most = is.most; registers = is.registers })) ms model.mutators.each;
      differ = subst AreDifferent (sym (numbers-changed m with_birth (λ x. refl) ms)) model.mutators.differ;
    };
    pointers = record {
      registers = all-map (λ x. (e : ℕ) → e < 16 → PointsTo s (register_at x e) (h.registers x.number e)) (λ x. (e : ℕ) → e < 16 → PointsTo after (register_at x e) (h.registers x.number e))
          (changed m with_birth) points-each ms model.pointers.registers;
      globals = λ g few. subst (λ (v : ℕ). PointsTo after v (h.globals g)) (sym (adds.globals g few)) (points-after (global_at s g) (h.globals g) (model.pointers.globals g few));
      confined = record {
        registers = λ k e q is. subst (λ (ns : List ℕ). (e < 16) × Contains ns k) (sym (numbers-changed m with_birth (λ x. refl) ms)) (model.pointers.confined.registers k e q is);
        globals = model.pointers.confined.globals;
      };
    };
    births = record {
      births = all-map (λ x. h.births x.number ≡ x.births) (λ x. with_record.births x.number ≡ x.births) (changed m with_birth) births-each ms model.births.births;
      held = births.either s w a n refs nums adds vacant (λ x. Any (λ y. ((name_at after x).mutator ≡ y.number) × ((name_at after x).birth ≤ y.births)) (add_birth ms m)) new-births old-births;
      pinned = λ k is. all-map (λ x. k.mutator ≡ x.number → k.birth ≤ x.births) (λ x. k.mutator ≡ x.number → k.birth ≤ x.births) (changed m with_birth)
          (changed-from m with_birth (λ x. k.mutator ≡ x.number → k.birth ≤ x.births) (λ x f same. let least : k.birth ≤ x.births = f same in omega arith)) ms (model.births.pinned k is);
    };
    mirrors = record {
      held = joined-each (IsHeld after) (λ x there. births.held-after s w a n refs nums adds vacant x (in-set-held x there)) (births.held-new s w a n refs nums adds vacant);
      fields = λ x i there. joined-each (λ y. i < refs_at after y → IsTrue (is_reference (ref_at after y i)) → joined (ref_at after y i))
          (λ y inset less some. let few : i < refs_at s y = subst (λ (k : ℕ). i < k) (births.refs-same s w a n refs nums adds vacant y (in-set-held y inset)) less in
          let same : ref_at after y i ≡ ref_at s y i = births.ref-same s w a n refs nums adds vacant y i (in-set-held y inset) few in
          inl (subst set (sym same) (model.mirrors.fields y i inset few (subst (λ (v : ℕ). IsTrue (is_reference v)) same some))))
          (λ less some. absurd (refers-some (ref_at after a i) some (births.new-ref s w a n refs nums adds vacant i (subst (λ (k : ℕ). i < k) (births.new-refs s w a n refs nums adds vacant) less))))
          x there;
      registers = all-map (λ x. (e : ℕ) → e < 16 → register_at x e ≢ 0 → set (register_at x e)) (λ x. (e : ℕ) → e < 16 → register_at x e ≢ 0 → joined (register_at x e))
          (changed m with_birth) registers-each ms model.mirrors.registers;
      globals = λ g few some. let same : global_at after g ≡ global_at s g = adds.globals g few in
          inl (subst set (sym same) (model.mirrors.globals g few (λ nil. some (same ∙ nil))));
      records = joined-each (λ x. with_record.records (name_at after x) ≡ Some (record_at after x))
          (λ x there. ap with_record.records (births.name-same s w a n refs nums adds vacant x (in-set-held x there))
          ∙ at_name-other h.records n (Some (born refs nums)) (name_at s x) (other-name x there)
          ∙ model.mirrors.records x there ∙ ap (λ r. Some r) (sym (record-old x (in-set-held x there))))
          (ap with_record.records (births.new-name s w a n refs nums adds vacant) ∙ at_name-same h.records n (Some (born refs nums)) ∙ ap (λ r. Some r) (sym record-new));
      pins = joined-each (λ x. IsTrue (is_pinned after x) ↔ IsTrue (h.pinned (name_at after x)))
          (λ x there. subst (λ (k : Name). IsTrue (is_pinned after x) ↔ IsTrue (h.pinned k)) (sym (births.name-same s w a n refs nums adds vacant x (in-set-held x there)))
          (subst (λ (b : Bool). IsTrue b ↔ IsTrue (h.pinned (name_at s x))) (sym (adds.pins x)) (model.mirrors.pins x there)))
          ((λ is. absurd (not-marked is)), (λ is. absurd (not-pinned (sym (ap h.pinned (births.new-name s w a n refs nums adds vacant)) ∙ is))));
    };
  }

  pub birth-models : RepresentsOn after (set_register_of (add_birth ms m) m d a) (with_new h m d refs nums) joined
  birth-models = register-models after (add_birth ms m) with_record joined recorded m d a (Some n) small
      (subst (λ (ns : List ℕ). Contains ns m) (sym (numbers-changed m with_birth (λ x. refl) ms)) known)
      ((let from : heap_of s.blocks ≤ a = vacant.address.from in omega arith), births.held-new s w a n refs nums adds vacant, births.new-name s w a n refs nums adds vacant)
      (λ some. inr refl)
