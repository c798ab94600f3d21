-- An ideal heap that a lawful heap with its mutators represents: its records are those of the held objects.
use Rattle.std.proofs.Common.{◌≡◌, ◌≢◌, refl, sym, ◌∙◌, ap, subst, ℕ, zero, suc, ◌+◌, ◌*◌, ◌<◌, ◌≤◌, ◌↔◌, inl, inr, arith, Bool, true, false, ◌&&◌, IsTrue, List, [], ◌∷◌, length, nat_eq, nat_lt, slice_index}
use Rattle.std.specs.Prelude.{Option, Some, None, if◌then◌else◌}
use Rattle.std.specs.List.{range_with_len, find, Contains, AllByRecursion, Any}
use Rattle.std.specs.Option.{option_map, option_map_or}
use Rattle.std.proofs.lemmas.Bool.{cases_eq, cases_lt, cases_Bool, cond-true, cond-false, and_parts, eq-eqb, ne_eqb, eqb-true, ltb-true, lt-ltb}
use Rattle.std.proofs.lemmas.List.{get_or_past}
use Rattle.heap_layout.specs.Zones.{row_words, heap_of}
use Rattle.ideal_heap.specs.declared.name.Name.{Name}
use Rattle.ideal_heap.specs.Names.{name, same_name}
use Rattle.ideal_heap.specs.Ideal.{IdealHeap, IsConfined}
use Rattle.object_model.specs.Objects.{HeapState, global_at, is_start, is_pinned, IsHeld, name_at, record_at}
use Rattle.object_model.specs.Lawful.{IsLawful, IsWellFormed, IsRoot}
use Rattle.object_model.specs.Graphs.{MutatorState, IsMutatorState, AreDifferent, AreMutators, AreRegisters, PointsTo, Represents, register_at, numbers_of}
use Rattle.object_model.specs.Agreement.{RepresentsOn}
use Rattle.object_model.proofs.Among.{all-at, one-number, number-among}
use Rattle.object_model.proofs.Marks as marks
use Rattle.object_model.proofs.Representation as standing
use Rattle.mutator_core.specs.declared.state.Local.{Local}
use Rattle.mutator_core.specs.Machine.{first_local, first_local_of}
use Rattle.mutator_core.proofs.Beginnings.{differ-head, differ-tail}

-- the one element that passes a test is found, and what is found passes it
pub found-only : (p : ℕ → Bool) (n from a : ℕ) → IsTrue (p a) → from ≤ a → a < from + n → ((x : ℕ) → IsTrue (p x) → x ≡ a) → find p (range_with_len from n) ≡ Some a
found-only p zero from a is least most only = absurd (omega arith)
found-only p (suc n) from a is least most only = elim (cases_Bool (p from)) as (λ _. (if p from then Some from else find p (range_with_len (from + 1) n)) ≡ Some a) [
  | inl is-so ↦ cond-true (p from) (Some from) (find p (range_with_len (from + 1) n)) is-so ∙ ap (λ x. Some x) (only from is-so)
  | inr not-so ↦ cond-false (p from) (Some from) (find p (range_with_len (from + 1) n)) not-so
      ∙ found-only p n (from + 1) a is (let other : from ≢ a = (λ same. let wrong : true ≡ false = sym is ∙ ap p (sym same) ∙ not-so in cc) in omega arith) (omega arith) only
]

pub found-passes : (p : ℕ → Bool) (xs : List ℕ) (a : ℕ) → find p xs ≡ Some a → IsTrue (p a)
found-passes p [] a is = let wrong : None ≡ Some a = is in cc
found-passes p (x ∷ xs) a is = elim (cases_Bool (p x)) as (λ _. IsTrue (p a)) [
  | inl is-so ↦ (let e : Some x ≡ Some a = sym (cond-true (p x) (Some x) (find p xs) is-so) ∙ is in let same : x ≡ a = cc in subst (λ y. IsTrue (p y)) same is-so)
  | inr not-so ↦ found-passes p xs a (sym (cond-false (p x) (Some x) (find p xs) not-so) ∙ is)
]

-- each mutator's first state is its own
pub own-local : (ms : List MutatorState) (m : MutatorState) → AreDifferent (numbers_of ms) → Contains ms m → first_local_of ms m.number ≡ first_local m
own-local [] m differ known = absurd (let there : known.0 < 0 = known.1 in omega arith)
own-local (y ∷ ys) m differ (zero, within, is) =
    cond-true (nat_eq m.number y.number) (first_local y) (first_local_of ys m.number) (eq-eqb m.number y.number (ap (λ x. x.number) (sym is))) ∙ ap first_local is
own-local (y ∷ ys) m differ (suc k, within, is) =
    let rest : Contains ys m = (k, (let w : suc k < suc (length ys) = within in omega arith), is) in
    cond-false (nat_eq m.number y.number) (first_local y) (first_local_of ys m.number)
    (ne_eqb m.number y.number (all-at (λ k. k ≢ y.number) (numbers_of ys) m.number (differ-head y.number (numbers_of ys) differ) (number-among ys m rest)))
    ∙ own-local ys m (differ-tail y.number (numbers_of ys) differ) rest

-- what holds of each element by its membership
pub all-members : {X : Type 0} (P : X → Type 0) (xs : List X) → ((x : X) → Contains xs x → P x) → AllByRecursion P xs
all-members P [] each = tt
all-members P (x ∷ xs) each = (each x (0, omega arith, refl), all-members P xs (λ y known. each y (suc known.0, (let less : known.0 < length xs = known.1 in omega arith), known.2)))

-- a mutator that is not among them has no registers
no-registers : (ms : List MutatorState) (k d : ℕ) → slice_index (first_local_of ms k).registers d ≢ 0 → (m : MutatorState) × Contains ms m × (m.number ≡ k) × (first_local_of ms k ≡ first_local m)
no-registers [] k d some = absurd (some refl)
no-registers (m ∷ ms) k d some = elim (cases_eq k m.number) as (λ _. (x : MutatorState) × Contains (m ∷ ms) x × (x.number ≡ k) × (first_local_of (m ∷ ms) k ≡ first_local x)) [
  | inl same ↦ (m, (0, omega arith, refl), sym same, cond-true (nat_eq k m.number) (first_local m) (first_local_of ms k) (eq-eqb k m.number same))
  | inr other ↦
      (let skip : first_local_of (m ∷ ms) k ≡ first_local_of ms k = cond-false (nat_eq k m.number) (first_local m) (first_local_of ms k) (ne_eqb k m.number other) in
      let rest = no-registers ms k d (subst (λ (l : Local). slice_index l.registers d ≢ 0) skip some) in
      (rest.0, (suc rest.1.0, (let less : rest.1.0 < length ms = rest.1.1 in omega arith), rest.1.2), rest.2, skip ∙ rest.3))
]

-- the name at an address, nil at 0
abbrev name_in_word : HeapState → ℕ → Option Name
name_in_word s v = if nat_eq v 0 then None else Some (name_at s v)

word-points : (s : HeapState) (v : ℕ) → IsRoot s v → PointsTo s v (name_in_word s v)
word-points s v root = elim (cases_eq v 0) as (λ _. PointsTo s v (name_in_word s v)) [
  | inl nil ↦ subst (PointsTo s v) (sym (cond-true (nat_eq v 0) None (Some (name_at s v)) (eq-eqb v 0 nil))) nil
  | inr some ↦ (let here : PointsTo s v (Some (name_at s v)) = (omega arith, root some, refl) in
      subst (PointsTo s v) (sym (cond-false (nat_eq v 0) None (Some (name_at s v)) (ne_eqb v 0 some))) here)
]

word-some : (s : HeapState) (v : ℕ) (n : Name) → name_in_word s v ≡ Some n → v ≢ 0
word-some s v n is nil = let wrong : None ≡ Some n = sym (cond-true (nat_eq v 0) None (Some (name_at s v)) (eq-eqb v 0 nil)) ∙ is in cc

-- whether the object at an address has the name
abbrev is_named : HeapState → Name → ℕ → Bool
is_named s n a = is_start s a && same_name (name_at s a) n

-- the address of the object with the name
abbrev place_of : HeapState → Name → Option ℕ
place_of s n = find (is_named s n) (range_with_len (heap_of s.blocks) (4096 * s.blocks))

-- the ideal heap with all held objects
abbrev pub ideal_of : HeapState → List MutatorState → IdealHeap
ideal_of s ms = record {
  records = λ n. option_map (record_at s) (place_of s n);
  pinned = λ n. option_map_or (is_pinned s) (place_of s n) false;
  globals = λ g. if nat_lt g 16 then name_in_word s (global_at s g) else None;
  registers = λ m d. name_in_word s (slice_index (first_local_of ms m).registers d);
  births = λ m. (first_local_of ms m).births;
}

names-equal : (a b : Name) → IsTrue (same_name a b) → a ≡ b
names-equal a b is =
    let parts = and_parts (nat_eq a.mutator b.mutator) (nat_eq a.birth b.birth) is in
    ap (λ m. name m a.birth) (eqb-true a.mutator b.mutator parts.0) ∙ ap (λ k. name b.mutator k) (eqb-true a.birth b.birth parts.1)

same-names : (a : Name) → IsTrue (same_name a a)
same-names a = ap (λ b. b && nat_eq a.birth a.birth) (eq-eqb a.mutator a.mutator refl) ∙ eq-eqb a.birth a.birth refl

module _ (s : HeapState) (ms : List MutatorState) (lawful : IsLawful s) (mutators : AreMutators ms) (registers : AllByRecursion (λ m. AreRegisters s m.registers) ms)
    (names : (a : ℕ) → IsHeld s a → Any (λ m. ((name_at s a).mutator ≡ m.number) × ((name_at s a).birth ≤ m.births)) ms) where
  order : IsWellFormed s
  order = lawful.but_lines.order

  abbrev h : IdealHeap
  h = ideal_of s ms

  place-held : (a : ℕ) → IsHeld s a → place_of s (name_at s a) ≡ Some a
  place-held a holds = found-only (is_named s (name_at s a)) (4096 * s.blocks) (heap_of s.blocks) a
      (ap (λ b. b && same_name (name_at s a) (name_at s a)) holds.start ∙ same-names (name_at s a)) holds.address.from
      (let below : a < row_words s.blocks = holds.address.below in omega arith)
      (λ x is. let parts = and_parts (is_start s x) (same_name (name_at s x) (name_at s a)) is in
      order.objects.names x a (marks.held s x parts.0) holds (names-equal (name_at s x) (name_at s a) parts.1))

  -- a pinned name is that of a held object
  named-held : (n : Name) → IsTrue (h.pinned n) → (a : ℕ) × IsHeld s a × (name_at s a ≡ n)
  named-held n pinned = elim (standing.option_cases (place_of s n)) as (λ _. (a : ℕ) × IsHeld s a × (name_at s a ≡ n)) [
    | inl none ↦ absurd (let wrong : false ≡ true = sym (ap (λ o. option_map_or (is_pinned s) o false) none) ∙ pinned in cc)
    | inr some ↦ (let passes = and_parts (is_start s some.0) (same_name (name_at s some.0) n)
        (found-passes (is_named s n) (range_with_len (heap_of s.blocks) (4096 * s.blocks)) some.0 some.1) in
        (some.0, marks.held s some.0 passes.0, names-equal (name_at s some.0) n passes.1))
  ]

  own : (m : MutatorState) → Contains ms m → first_local_of ms m.number ≡ first_local m
  own m known = own-local ms m mutators.differ known

  register-points : (m : MutatorState) → Contains ms m → (d : ℕ) → d < 16 → PointsTo s (register_at m d) (h.registers m.number d)
  register-points m known d small = subst (λ (l : Local). PointsTo s (register_at m d) (name_in_word s (slice_index l.registers d))) (sym (own m known))
      (word-points s (register_at m d) (all-at (λ x. AreRegisters s x.registers) ms m registers known d small))

  confined : IsConfined (numbers_of ms) h
  confined = record {
    registers = λ m d n is.
        let some : slice_index (first_local_of ms m).registers d ≢ 0 = word-some s _ n is in
        let one = no-registers ms m d some in (
          elim (cases_lt d 16) as (λ _. d < 16) [
            | inl small ↦ small
            | inr large ↦ absurd (some (ap (λ (l : Local). slice_index l.registers d) one.3
                ∙ get_or_past one.0.registers d 0 (let many : length one.0.registers ≡ 16 = (all-at IsMutatorState ms one.0 mutators.each one.1).registers in omega arith)))
          ],
          subst (Contains (numbers_of ms)) one.2 (number-among ms one.0 one.1),
        );
    globals = λ g n is. elim (cases_Bool (nat_lt g 16)) as (λ _. g < 16) [
      | inl small ↦ ltb-true g 16 small
      | inr large ↦ absurd (let wrong : None ≡ Some n = sym (cond-false (nat_lt g 16) (name_in_word s (global_at s g)) None large) ∙ is in cc)
    ];
  }

  ideal-models : RepresentsOn s ms h (IsHeld s)
  ideal-models = record {
    order = order;
    mutators = mutators;
    pointers = record {
      registers = all-members (λ m. (d : ℕ) → d < 16 → PointsTo s (register_at m d) (h.registers m.number d)) ms register-points;
      globals = λ g small. subst (PointsTo s (global_at s g)) (sym (cond-true (nat_lt g 16) (name_in_word s (global_at s g)) None (lt-ltb g 16 small)))
          (word-points s (global_at s g) (order.objects.globals g small));
      confined = confined;
    };
    births = record {
      births = all-members (λ m. h.births m.number ≡ m.births) ms (λ m known. ap (λ (l : Local). l.births) (own m known));
      held = names;
      pinned = λ n is. let there = named-held n is in
          one-number (λ m. n.birth ≤ m.births) n.mutator ms mutators.differ
          (subst (λ (k : Name). Any (λ m. (k.mutator ≡ m.number) × (k.birth ≤ m.births)) ms) there.2 (names there.0 there.1));
    };
    mirrors = record {
      held = λ a holds. holds;
      fields = λ a i holds less some. order.objects.references a i holds less some;
      registers = registers;
      globals = order.objects.globals;
      records = λ a holds. ap (option_map (record_at s)) (place-held a holds);
      pins = λ a holds. subst (λ (b : Bool). IsTrue (is_pinned s a) ↔ IsTrue b) (sym (ap (λ o. option_map_or (is_pinned s) o false) (place-held a holds))) (λ is. is, λ is. is);
    };
  }

  pub some-ideal : (i : IdealHeap) × Represents s ms i
  some-ideal = (h, standing.represents s ms h (IsHeld s) ideal-models)
