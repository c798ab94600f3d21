-- If a heap agrees with an ideal heap on a set, it represents it. If it represents it, it agrees on the reachable addresses.
use Rattle.std.proofs.Common.{◌≡◌, ◌≢◌, refl, sym, ◌∙◌, ap, subst, ℕ, suc, zero, ◌+◌, ◌-◌, ◌<◌, ◌⊎◌, inl, inr, arith, IsTrue, false, List, [], ◌∷◌, ◌++◌, length, slice_index, None, Some, Option, zero-add}
use Rattle.std.specs.Prelude.{slice_get, unwrap_or, option_map}
use Rattle.std.specs.List.{AllByRecursion, range_with_len}
use Rattle.std.proofs.lemmas.Bool.{cases_lt, cond-true, cond-false}
use Rattle.std.proofs.lemmas.Option.{slice_get-map, slice_get-get_or, slice_get_within}
use Rattle.std.proofs.lemmas.List.FromFn.{get_or-range_with_len, length-range_with_len}
use Rattle.std.proofs.Math.ListN.{get_or-append}
use Rattle.std.proofs.Math.Seq.{get_or-append_right}
use Rattle.std.proofs.lemmas.List.{get_or_past, get_or-append-add, get_or_default, length-append, length-map}
use Rattle.ideal_heap.specs.declared.name.Name.{Name}
use Rattle.ideal_heap.specs.Ideal.{IdealHeap, Nil, At, record_of, no_fields}
use Rattle.ideal_heap.specs.Reach as reach
use Rattle.ideal_heap.specs.Reach.{PathReaches}
use Rattle.object_model.specs.Objects.{HeapState, global_at, IsHeld, name_at, refs_at, ref_at, record_at, field_of_word, is_reference}
use Rattle.object_model.specs.Graphs as graphs
use Rattle.object_model.specs.Graphs.{MutatorState, IsMutatorState, PointsTo, IsReachable, Represents, numbers_of, roots_of, register_at}
use Rattle.object_model.specs.Lawful.{IsWellFormed, IsRoot}
use Rattle.object_model.specs.Agreement.{RepresentsOn}
use Rattle.object_model.proofs.Among.{all-to}
use Rattle.object_model.proofs.References.{refers-cases}

-- a value of an option, with its equation
pub option_cases : {X : Type 0} (o : Option X) → (o ≡ None) ⊎ ((x : X) × (o ≡ Some x))
option_cases None = inl refl
option_cases (Some x) = inr (x, refl)

-- a word that is not nil and represents o
pub pointed : (s : HeapState) (v : ℕ) (o : Option Name) → PointsTo s v o → v ≢ 0 → o ≡ Some (name_at s v)
pointed s v None p some = absurd (some p)
pointed s v (Some n) p some = ap (λ x. Some x) (sym p.2)

to_pointed : (s : HeapState) (v : ℕ) (o : Option Name) (n : Name) → PointsTo s v o → o ≡ Some n → (0 < v) × (name_at s v ≡ n)
to_pointed s v o n p e = let P : Option Name → Type 0 = λ x. PointsTo s v x in let q : PointsTo s v (Some n) = subst P e p in (q.0, q.2)

-- the value of a root is that of some register
pub root-register : (set : ℕ → Type 0) (ms : List MutatorState) (i : ℕ) → AllByRecursion IsMutatorState ms
    → AllByRecursion (λ m. (d : ℕ) → d < 16 → set (register_at m d)) ms → i < length (roots_of ms) → set (slice_index (roots_of ms) i)
root-register set [] i each all within = absurd (omega arith)
root-register set (m ∷ ms) i each all within =
    elim (cases_lt i (length m.registers)) as (λ _. set (slice_index (m.registers ++ roots_of ms) i)) [
      | inl h ↦ subst set (sym (get_or-append m.registers (roots_of ms) 0 i h)) (all.0 i (let full : length m.registers ≡ 16 = each.0.registers in omega arith))
      | inr h ↦ subst set (sym (get_or-append_right m.registers (roots_of ms) i 0 h)) (root-register set ms (i - length m.registers) each.1 all.1 (omega (arith, length-append m.registers (roots_of ms), within)))
    ]

-- if an ideal register names an object, the object's address is some root
register-root : (s : HeapState) (h : IdealHeap) (ms : List MutatorState) (k d : ℕ) (n : Name) → AllByRecursion IsMutatorState ms
    → AllByRecursion (λ m. (e : ℕ) → e < 16 → PointsTo s (register_at m e) (h.registers m.number e)) ms
    → k < length (numbers_of ms) → d < 16 → h.registers (slice_index (numbers_of ms) k) d ≡ Some n
    → (i : ℕ) × (0 < slice_index (roots_of ms) i) × (name_at s (slice_index (roots_of ms) i) ≡ n)
register-root s h [] k d n each points within small e = absurd (omega arith)
register-root s h (m ∷ ms) zero d n each points within small e =
    let there : d < length m.registers = (let full : length m.registers ≡ 16 = each.0.registers in omega arith) in
    let P : ℕ → Type 0 = λ v. (0 < v) × (name_at s v ≡ n) in
    let found : P (slice_index (m.registers ++ roots_of ms) d) =
    subst P (sym (get_or-append m.registers (roots_of ms) 0 d there)) (to_pointed s (register_at m d) (h.registers m.number d) n (points.0 d small) e) in
    (d, found.0, found.1)
register-root s h (m ∷ ms) (suc k) d n each points within small e =
    let rest = register-root s h ms k d n each.1 points.1 (omega arith) small e in
    let P : ℕ → Type 0 = λ v. (0 < v) × (name_at s v ≡ n) in
    let found : P (slice_index (m.registers ++ roots_of ms) (length m.registers + rest.0)) =
    subst P (sym (get_or-append-add m.registers (roots_of ms) rest.0 0)) (rest.1, rest.2) in
    (length m.registers + rest.0, found.0, found.1)

-- the i-th number from 0 on is i
place-of : (n i : ℕ) → i < n → slice_get (range_with_len 0 n) i ≡ Some i
place-of n i within =
    slice_get-get_or (range_with_len 0 n) i 0 (let e : length (range_with_len 0 n) ≡ n = length-range_with_len 0 n in omega arith)
    ∙ ap (λ x. Some x) (get_or-range_with_len 0 n i 0 within ∙ zero-add i)

pub word-named : (s : HeapState) (v : ℕ) → IsTrue (is_reference v) → field_of_word s v ≡ At (name_at s v)
word-named s v some = cond-true (is_reference v) (At (name_at s v)) Nil some

pub nil-word : (s : HeapState) (v : ℕ) → is_reference v ≡ false → field_of_word s v ≡ Nil
nil-word s v nil = cond-false (is_reference v) (At (name_at s v)) Nil nil

-- the field of a record, from the word
pub field-named : (s : HeapState) (a i : ℕ) → i < refs_at s a → IsTrue (is_reference (ref_at s a i)) → slice_get (record_at s a).refs i ≡ Some (At (name_at s (ref_at s a i)))
field-named s a i within some =
    slice_get-map (λ j. field_of_word s (ref_at s a j)) (range_with_len 0 (refs_at s a)) i
    ∙ ap (option_map (λ j. field_of_word s (ref_at s a j))) (place-of (refs_at s a) i within)
    ∙ ap (λ x. Some x) (word-named s (ref_at s a i) some)

field-word : (s : HeapState) (a i : ℕ) (n : Name) → slice_get (record_at s a).refs i ≡ Some (At n) → (i < refs_at s a) × IsTrue (is_reference (ref_at s a i)) × (name_at s (ref_at s a i) ≡ n)
field-word s a i n e =
    let within : i < refs_at s a =
    (let there : i < length (record_at s a).refs = slice_get_within (record_at s a).refs i (At n) e in
    let many : length (record_at s a).refs ≡ refs_at s a = length-map (range_with_len 0 (refs_at s a)) (λ j. field_of_word s (ref_at s a j)) ∙ length-range_with_len 0 (refs_at s a) in omega arith) in
    elim (refers-cases (ref_at s a i)) as (λ _. (i < refs_at s a) × IsTrue (is_reference (ref_at s a i)) × (name_at s (ref_at s a i) ≡ n)) [
      | inl nil ↦ absurd (let wrong : Some Nil ≡ Some (At n) =
          sym (slice_get-map (λ j. field_of_word s (ref_at s a j)) (range_with_len 0 (refs_at s a)) i
          ∙ ap (option_map (λ j. field_of_word s (ref_at s a j))) (place-of (refs_at s a) i within)
          ∙ ap (λ x. Some x) (nil-word s (ref_at s a i) nil)) ∙ e in cc)
      | inr some ↦ (within, some, (let same : Some (At (name_at s (ref_at s a i))) ≡ Some (At n) = sym (field-named s a i within some) ∙ e in cc))
    ]

module _ (s : HeapState) (ms : List MutatorState) (h : IdealHeap) (set : ℕ → Type 0) (model : RepresentsOn s ms h set) where
  known : (a : ℕ) → set a → record_of h (name_at s a) ≡ record_at s a
  known a there = ap (λ x. unwrap_or x no_fields) (model.mirrors.records a there)

  -- in the set, and its name is reached
  abbrev Found : ℕ → Type 0
  Found a = set a × PathReaches h (name_at s a)

  registers-found : (xs : List MutatorState) → AllByRecursion (λ m. (d : ℕ) → d < 16 → PointsTo s (register_at m d) (h.registers m.number d)) xs
      → AllByRecursion (λ m. (d : ℕ) → d < 16 → register_at m d ≢ 0 → set (register_at m d)) xs
      → AllByRecursion (λ m. (d : ℕ) → d < 16 → register_at m d ≢ 0 → Found (register_at m d)) xs
  registers-found [] points in_set = tt
  registers-found (m ∷ xs) points in_set = (
    λ d small some. (in_set.0 d small some, reach.from_register m.number d (pointed s (register_at m d) (h.registers m.number d) (points.0 d small) some)),
    registers-found xs points.1 in_set.1,
  )

  root-found : (i : ℕ) → 0 < slice_index (roots_of ms) i → Found (slice_index (roots_of ms) i)
  root-found i some =
      elim (cases_lt i (length (roots_of ms))) as (λ _. Found (slice_index (roots_of ms) i)) [
        | inl within ↦ root-register (λ v. v ≢ 0 → Found v) ms i model.mutators.each
            (registers-found ms model.pointers.registers model.mirrors.registers) within (omega arith)
        | inr past ↦ absurd (let nil : slice_index (roots_of ms) i ≡ 0 = get_or_past (roots_of ms) i 0 past in omega arith)
      ]

  arrives-found : (a : ℕ) → IsReachable s (roots_of ms) a → Found a
  arrives-found a (graphs.from_root i e some) = subst Found e (root-found i (subst (λ (x : ℕ). 0 < x) (sym e) some))
  arrives-found a (graphs.from_global g small e some) =
      let there : 0 < global_at s g = subst (λ (x : ℕ). 0 < x) (sym e) some in
      subst Found e (model.mirrors.globals g small (omega arith), reach.from_global g (pointed s (global_at s g) (h.globals g) (model.pointers.globals g small) (omega arith)))
  arrives-found a (graphs.from_field x i before within e some) =
      let from = arrives-found x before in
      let there : IsTrue (is_reference (ref_at s x i)) = subst (λ (y : ℕ). IsTrue (is_reference y)) (sym e) some in
      let named : slice_get (record_of h (name_at s x)).refs i ≡ Some (At (name_at s (ref_at s x i))) =
      ap (λ r. slice_get r.refs i) (known x from.0) ∙ field-named s x i within there in
      subst Found e (model.mirrors.fields x i from.0 within there, reach.from_field (name_at s x) i from.1 named)

  -- the address of a reached name
  abbrev At' : Name → Type 0
  At' n = (a : ℕ) × IsReachable s (roots_of ms) a × (name_at s a ≡ n)

  reached-arrives : (n : Name) → PathReaches h n → At' n
  reached-arrives n (reach.from_register m d e) =
      let place = model.pointers.confined.registers m d n e in
      let k : ℕ = place.1.0 in
      let number : slice_index (numbers_of ms) k ≡ m = sym (get_or_default (numbers_of ms) k m 0 place.1.1) ∙ place.1.2 in
      let root = register-root s h ms k d n model.mutators.each model.pointers.registers place.1.1 place.0
      (ap (λ x. h.registers x d) number ∙ e) in
      (slice_index (roots_of ms) root.0, graphs.from_root root.0 refl root.1, root.2)
  reached-arrives n (reach.from_global g e) =
      let small : g < 16 = model.pointers.confined.globals g n e in
      let there = to_pointed s (global_at s g) (h.globals g) n (model.pointers.globals g small) e in
      (global_at s g, graphs.from_global g small refl there.0, there.1)
  reached-arrives n (reach.from_field k i before e) =
      let from = reached-arrives k before in
      let a : ℕ = from.0 in
      let same : record_of h k ≡ record_at s a = ap (record_of h) (sym from.2) ∙ known a (arrives-found a from.1).0 in
      let word = field-word s a i n (ap (λ r. slice_get r.refs i) (sym same) ∙ e) in
      (ref_at s a i, graphs.from_field a i from.1 word.0 refl word.1, word.2)

  pub represents : Represents s ms h
  represents = record {
    mutators = model.mutators;
    pointers = model.pointers;
    births = model.births;
    there = λ a arrives. let found = arrives-found a arrives in (found.1, model.mirrors.records a found.0);
    all = reached-arrives;
    pins = λ a arrives. model.mirrors.pins a (arrives-found a arrives).0;
  }

-- a word that represents a name or nil is nil or the address of a held object
pub points-reference : (s : HeapState) (v : ℕ) (o : Option Name) → PointsTo s v o → IsRoot s v
points-reference s v None nil some = absurd (some nil)
points-reference s v (Some n) there some = there.1

-- each register is a root
abbrev HasRoots : List ℕ → MutatorState → Type 0
HasRoots roots m = (d : ℕ) → d < 16 → (i : ℕ) × (slice_index roots i ≡ register_at m d)

registers-are-roots : (ms : List MutatorState) → AllByRecursion IsMutatorState ms → AllByRecursion (HasRoots (roots_of ms)) ms
registers-are-roots [] each = tt
registers-are-roots (m ∷ ms) each = (
  λ d small. (d, get_or-append m.registers (roots_of ms) 0 d (let full : length m.registers ≡ 16 = each.0.registers in omega arith)),
  all-to (HasRoots (roots_of ms)) (HasRoots (m.registers ++ roots_of ms))
      (λ x roots d small. let root = roots d small in (length m.registers + root.0, get_or-append-add m.registers (roots_of ms) root.0 0 ∙ root.1))
      ms (registers-are-roots ms each.1),
)

module _ (s : HeapState) (ms : List MutatorState) (h : IdealHeap) (order : IsWellFormed s) (standing : Represents s ms h) where
  root-held : (i : ℕ) → 0 < slice_index (roots_of ms) i → IsHeld s (slice_index (roots_of ms) i)
  root-held i some =
      elim (cases_lt i (length (roots_of ms))) as (λ _. IsHeld s (slice_index (roots_of ms) i)) [
        | inl within ↦ root-register (IsRoot s) ms i standing.mutators.each
            (all-to (λ m. (d : ℕ) → d < 16 → PointsTo s (register_at m d) (h.registers m.number d)) (λ m. (d : ℕ) → d < 16 → IsRoot s (register_at m d))
            (λ m points d small. points-reference s (register_at m d) (h.registers m.number d) (points d small)) ms standing.pointers.registers)
            within (omega arith)
        | inr past ↦ absurd (let nil : slice_index (roots_of ms) i ≡ 0 = get_or_past (roots_of ms) i 0 past in omega arith)
      ]

  arrives-held : (a : ℕ) → IsReachable s (roots_of ms) a → IsHeld s a
  arrives-held a (graphs.from_root i e some) = subst (IsHeld s) e (root-held i (subst (λ (x : ℕ). 0 < x) (sym e) some))
  arrives-held a (graphs.from_global g small e some) =
      let there : 0 < global_at s g = subst (λ (x : ℕ). 0 < x) (sym e) some in
      subst (IsHeld s) e (points-reference s (global_at s g) (h.globals g) (standing.pointers.globals g small) (omega arith))
  arrives-held a (graphs.from_field x i before within e some) =
      let there : IsTrue (is_reference (ref_at s x i)) = subst (λ (y : ℕ). IsTrue (is_reference y)) (sym e) some in
      subst (IsHeld s) e (order.objects.references x i (arrives-held x before) within there)

  pub models : RepresentsOn s ms h (IsReachable s (roots_of ms))
  models = record {
    order = order;
    mutators = standing.mutators;
    pointers = standing.pointers;
    births = standing.births;
    mirrors = record {
      held = arrives-held;
      fields = λ a i there less some. graphs.from_field a i there less refl some;
      registers = all-to (HasRoots (roots_of ms)) (λ m. (d : ℕ) → d < 16 → register_at m d ≢ 0 → IsReachable s (roots_of ms) (register_at m d))
          (λ m roots d small some. let root = roots d small in graphs.from_root root.0 root.1 (omega arith)) ms (registers-are-roots ms standing.mutators.each);
      globals = λ g small some. graphs.from_global g small refl (omega arith);
      records = λ a there. (standing.there a there).1;
      pins = standing.pins;
    };
  }
