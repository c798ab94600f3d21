-- A register is set, in the mutators and in the ideal heap.
use Rattle.std.proofs.Common.{◌≡◌, ◌≢◌, refl, sym, ◌∙◌, ap, subst, ℕ, ◌<◌, ◌≤◌, ◌⊎◌, inl, inr, arith, List, [], ◌∷◌, length, Option, map, nat_eq}
use Rattle.std.specs.Prelude.{if◌then◌else◌}
use Rattle.std.specs.List.{AllByRecursion, Any, Contains}
use Rattle.std.proofs.lemmas.Bool.{cases_eq, cond-true, cond-false, eq-eqb, ne_eqb}
use Rattle.std.proofs.lemmas.List.{get_or-set_same, get_or-set_other, length-set, length-map, get_or-map}
use Rattle.ideal_heap.specs.declared.name.Name.{Name}
use Rattle.ideal_heap.specs.Ideal.{IdealHeap, IsConfined, at_number, set_register}
use Rattle.ideal_heap.proofs.UpdateLemmas.{at_number-other}
use Rattle.object_model.specs.Objects.{HeapState, name_at}
use Rattle.object_model.specs.Graphs.{MutatorState, IsMutatorState, AreDifferent, PointsTo, numbers_of, register_at, with_register, set_register_of}
use Rattle.object_model.specs.Agreement.{RepresentsOn}
use Rattle.object_model.proofs.Updates.{at_number-same}

-- if P of each x implies Q of f x, P of each element implies Q of each element of the mapped list
pub all-map : {X Y : Type 0} (P : X → Type 0) (Q : Y → Type 0) (f : X → Y) → ((x : X) → P x → Q (f x)) → (xs : List X) → AllByRecursion P xs → AllByRecursion Q (map f xs)
all-map P Q f each [] all = tt
all-map P Q f each (x ∷ xs) all = (each x all.0, all-map P Q f each xs all.1)

-- two facts of each element at once
pub all-both : {X : Type 0} (P Q : X → Type 0) (xs : List X) → AllByRecursion P xs → AllByRecursion Q xs → AllByRecursion (λ x. P x × Q x) xs
all-both P Q [] p q = tt
all-both P Q (x ∷ xs) p q = ((p.0, q.0), all-both P Q xs p.1 q.1)

pub any-map : {X Y : Type 0} (P : X → Type 0) (Q : Y → Type 0) (f : X → Y) → ((x : X) → P x → Q (f x)) → (xs : List X) → Any P xs → Any Q (map f xs)
any-map P Q f each xs any = (
  any.0,
  f any.1,
  (let e : length (map f xs) ≡ length xs = length-map xs f in let there : any.0 < length xs = any.2 in omega arith),
  get_or-map f xs any.0 any.1 (f any.1) any.2 ∙ ap f any.3,
  each any.1 any.4,
)

pub map-kept : {X Y : Type 0} (g : X → Y) (f : X → X) → ((x : X) → g (f x) ≡ g x) → (xs : List X) → map g (map f xs) ≡ map g xs
map-kept g f same [] = refl
map-kept g f same (x ∷ xs) = ap (λ y. y ∷ map g (map f xs)) (same x) ∙ ap (λ ys. g x ∷ ys) (map-kept g f same xs)

-- one mutator is changed by f
module _ (m : ℕ) (f : MutatorState → MutatorState) where
  abbrev pub changed : MutatorState → MutatorState
  changed x = if nat_eq x.number m then f x else x

  pub changed-yes : (x : MutatorState) → x.number ≡ m → changed x ≡ f x
  changed-yes x e = cond-true (nat_eq x.number m) (f x) x (eq-eqb x.number m e)

  pub changed-no : (x : MutatorState) → x.number ≢ m → changed x ≡ x
  changed-no x other = cond-false (nat_eq x.number m) (f x) x (ne_eqb x.number m other)

  -- what f leaves unchanged in each mutator is unchanged
  pub changed-keeps : {Y : Type 0} (g : MutatorState → Y) → ((x : MutatorState) → g (f x) ≡ g x) → (x : MutatorState) → g (changed x) ≡ g x
  changed-keeps g same x = elim (cases_eq x.number m) as (λ _. g (changed x) ≡ g x) [
    | inl e ↦ ap g (changed-yes x e) ∙ same x
    | inr other ↦ ap g (changed-no x other)
  ]

  pub changed-from : (P : MutatorState → Type 0) → ((x : MutatorState) → P x → P (f x)) → (x : MutatorState) → P x → P (changed x)
  changed-from P each x p = elim (cases_eq x.number m) as (λ _. P (changed x)) [
    | inl e ↦ subst P (sym (changed-yes x e)) (each x p)
    | inr other ↦ subst P (sym (changed-no x other)) p
  ]

  -- from one fact to another, for the changed mutator and for the rest
  pub changed-each : (P Q : MutatorState → Type 0) → ((x : MutatorState) → P x → Q (f x)) → ((x : MutatorState) → P x → Q x) → (x : MutatorState) → P x → Q (changed x)
  changed-each P Q turn keep x p = elim (cases_eq x.number m) as (λ _. Q (changed x)) [
    | inl e ↦ subst Q (sym (changed-yes x e)) (turn x p)
    | inr other ↦ subst Q (sym (changed-no x other)) (keep x p)
  ]

  pub numbers-changed : ((x : MutatorState) → (f x).number ≡ x.number) → (ms : List MutatorState) → numbers_of (map changed ms) ≡ numbers_of ms
  numbers-changed same ms = map-kept (λ x. x.number) changed (changed-keeps (λ x. x.number) same) ms

module _ (s : HeapState) (ms : List MutatorState) (h : IdealHeap) (set : ℕ → Type 0) (model : RepresentsOn s ms h set)
    (m d v : ℕ) (o : Option Name) (small : d < 16) (known : Contains (numbers_of ms) m) (points : PointsTo s v o) (inset : v ≢ 0 → set v) where
  abbrev turned : MutatorState → MutatorState
  turned x = with_register x d v

  abbrev after_heap : IdealHeap
  after_heap = set_register h m d o

  abbrev pub after : List MutatorState
  after = set_register_of ms m d v

  register-set : (x : MutatorState) → length x.registers ≡ 16 → x.number ≡ m → register_at (changed m turned x) d ≡ v
  register-set x full e = ap (λ y. register_at y d) (changed-yes m turned x e) ∙ get_or-set_same x.registers d v 0 (omega arith)

  register-kept : (x : MutatorState) (e : ℕ) → (x.number ≡ m → e ≢ d) → register_at (changed m turned x) e ≡ register_at x e
  register-kept x e other = elim (cases_eq x.number m) as (λ _. register_at (changed m turned x) e ≡ register_at x e) [
    | inl same ↦ ap (λ y. register_at y e) (changed-yes m turned x same) ∙ get_or-set_other x.registers d e v 0 (other same)
    | inr differ ↦ ap (λ y. register_at y e) (changed-no m turned x differ)
  ]

  ideal-set : (k e : ℕ) → k ≡ m → e ≡ d → after_heap.registers k e ≡ o
  ideal-set k e same at = ap (λ f. f e) (at_number-same h.registers m (at_number (h.registers m) d o) k same) ∙ at_number-same (h.registers m) d o e at

  ideal-kept : (k e : ℕ) → (k ≡ m → e ≢ d) → after_heap.registers k e ≡ h.registers k e
  ideal-kept k e other = elim (cases_eq k m) as (λ _. after_heap.registers k e ≡ h.registers k e) [
    | inl same ↦ ap (λ f. f e) (at_number-same h.registers m (at_number (h.registers m) d o) k same) ∙ at_number-other (h.registers m) d o e (other same)
        ∙ ap (λ q. h.registers q e) (sym same)
    | inr differ ↦ ap (λ f. f e) (at_number-other h.registers m (at_number (h.registers m) d o) k differ)
  ]

  -- the register is the one that is set, or another
  at-place : (k e : ℕ) → ((k ≡ m) × (e ≡ d)) ⊎ (k ≡ m → e ≢ d)
  at-place k e = elim (cases_eq k m) as (λ _. ((k ≡ m) × (e ≡ d)) ⊎ (k ≡ m → e ≢ d)) [
    | inl same ↦ elim (cases_eq e d) as (λ _. ((k ≡ m) × (e ≡ d)) ⊎ (k ≡ m → e ≢ d)) [ inl at ↦ inl (same, at) | inr other ↦ inr (λ _. other) ]
    | inr differ ↦ inr (λ same. absurd (differ same))
  ]

  number-kept : (x : MutatorState) → (changed m turned x).number ≡ x.number
  number-kept x = changed-keeps m turned (λ y. y.number) (λ y. refl) x

  points-each : (x : MutatorState) → IsMutatorState x × ((e : ℕ) → e < 16 → PointsTo s (register_at x e) (h.registers x.number e))
      → (e : ℕ) → e < 16 → PointsTo s (register_at (changed m turned x) e) (after_heap.registers (changed m turned x).number e)
  points-each x facts e few =
      subst (λ (k : ℕ). PointsTo s (register_at (changed m turned x) e) (after_heap.registers k e)) (sym (number-kept x))
      (elim (at-place x.number e) as (λ _. PointsTo s (register_at (changed m turned x) e) (after_heap.registers x.number e)) [
        | inl here ↦ subst (λ (w : ℕ). PointsTo s w (after_heap.registers x.number e)) (sym (ap (register_at (changed m turned x)) here.1 ∙ register-set x facts.0.registers here.0))
            (subst (PointsTo s v) (sym (ideal-set x.number e here.0 here.1)) points)
        | inr other ↦ subst (λ (w : ℕ). PointsTo s w (after_heap.registers x.number e)) (sym (register-kept x e other))
            (subst (PointsTo s (register_at x e)) (sym (ideal-kept x.number e other)) (facts.1 e few))
      ])

  in-set-each : (x : MutatorState) → IsMutatorState x × ((e : ℕ) → e < 16 → register_at x e ≢ 0 → set (register_at x e))
      → (e : ℕ) → e < 16 → register_at (changed m turned x) e ≢ 0 → set (register_at (changed m turned x) e)
  in-set-each x facts e few = elim (at-place x.number e) as (λ _. register_at (changed m turned x) e ≢ 0 → set (register_at (changed m turned x) e)) [
    | inl here ↦ subst (λ (w : ℕ). w ≢ 0 → set w) (sym (ap (register_at (changed m turned x)) here.1 ∙ register-set x facts.0.registers here.0)) inset
    | inr other ↦ subst (λ (w : ℕ). w ≢ 0 → set w) (sym (register-kept x e other)) (facts.1 e few)
  ]

  confined-after : IsConfined (numbers_of after) after_heap
  confined-after = record {
    registers = λ k e n is. elim (at-place k e) as (λ _. (e < 16) × Contains (numbers_of after) k) [
      | inl here ↦ (
        subst (λ (q : ℕ). q < 16) (sym here.1) small,
        subst (λ (ns : List ℕ). Contains ns k) (sym (numbers-changed m turned (λ x. refl) ms)) (subst (λ (q : ℕ). Contains (numbers_of ms) q) (sym here.0) known),
      )
      | inr other ↦ let before = model.pointers.confined.registers k e n (sym (ideal-kept k e other) ∙ is) in
          (before.0, subst (λ (ns : List ℕ). Contains ns k) (sym (numbers-changed m turned (λ x. refl) ms)) before.1)
    ];
    globals = model.pointers.confined.globals;
  }

  pub register-models : RepresentsOn s after after_heap set
  register-models = record {
    order = model.order;
    mutators = record {
      each = all-map IsMutatorState IsMutatorState (changed m turned)
          (changed-from m turned IsMutatorState (λ x is. record { least = is.least; most = is.most; registers = length-set x.registers d v ∙ is.registers })) ms model.mutators.each;
      differ = subst AreDifferent (sym (numbers-changed m turned (λ x. refl) ms)) model.mutators.differ;
    };
    pointers = record {
      registers = all-map (λ x. IsMutatorState x × ((e : ℕ) → e < 16 → PointsTo s (register_at x e) (h.registers x.number e)))
          (λ x. (e : ℕ) → e < 16 → PointsTo s (register_at x e) (after_heap.registers x.number e)) (changed m turned) points-each ms
          (all-both IsMutatorState (λ x. (e : ℕ) → e < 16 → PointsTo s (register_at x e) (h.registers x.number e)) ms model.mutators.each model.pointers.registers);
      globals = model.pointers.globals;
      confined = confined-after;
    };
    births = record {
      births = all-map (λ x. h.births x.number ≡ x.births) (λ x. h.births x.number ≡ x.births) (changed m turned)
          (changed-from m turned (λ x. h.births x.number ≡ x.births) (λ x e. e)) ms model.births.births;
      held = λ a there. any-map (λ x. ((name_at s a).mutator ≡ x.number) × ((name_at s a).birth ≤ x.births)) (λ x. ((name_at s a).mutator ≡ x.number) × ((name_at s a).birth ≤ x.births)) (changed m turned)
          (changed-from m turned (λ x. ((name_at s a).mutator ≡ x.number) × ((name_at s a).birth ≤ x.births)) (λ x e. e)) ms (model.births.held a there);
      pinned = λ n is. all-map (λ x. n.mutator ≡ x.number → n.birth ≤ x.births) (λ x. n.mutator ≡ x.number → n.birth ≤ x.births) (changed m turned)
          (changed-from m turned (λ x. n.mutator ≡ x.number → n.birth ≤ x.births) (λ x e. e)) ms (model.births.pinned n is);
    };
    mirrors = record {
      held = model.mirrors.held;
      fields = model.mirrors.fields;
      registers = all-map (λ x. IsMutatorState x × ((e : ℕ) → e < 16 → register_at x e ≢ 0 → set (register_at x e)))
          (λ x. (e : ℕ) → e < 16 → register_at x e ≢ 0 → set (register_at x e)) (changed m turned) in-set-each ms
          (all-both IsMutatorState (λ x. (e : ℕ) → e < 16 → register_at x e ≢ 0 → set (register_at x e)) ms model.mutators.each model.mirrors.registers);
      globals = model.mirrors.globals;
      records = model.mirrors.records;
      pins = model.mirrors.pins;
    };
  }
