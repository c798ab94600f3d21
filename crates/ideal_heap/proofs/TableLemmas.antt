-- The effect of a change of the tables on the heap that they represent.
use Rattle.std.proofs.Common.{◌≡◌, ℕ, ◌+◌, ◌-◌, ◌<◌, ◌≤◌, Bool, true, false, nat_eq, eq-eqb, refl, ap, sym, ◌∙◌, inl, inr, Option, Some, None, List, [], ◌∷◌, ◌++◌, length, get_or, slice_get, slice_set, replicate, map, unwrap_or, option_and_then, is_some, if◌then◌else◌, zero, suc, arith}
use Rattle.std.specs.Option.{option_map, option_map_or}
use Rattle.std.proofs.lemmas.List.{map-set, length-set, length_push}
use Rattle.std.proofs.lemmas.Option.{slice_get_read, slice_get_past, slice_get_within, unwrap_or-slice_get}
use Rattle.ideal_heap.specs.declared.name.Name.{Name}
use Rattle.ideal_heap.specs.declared.tables.Object.{Object}
use Rattle.ideal_heap.specs.declared.tables.Mutator.{Mutator}
use Rattle.ideal_heap.specs.Names.{name, same_name}
use Rattle.ideal_heap.specs.Ideal.{IdealHeap, Record, empty, at_number, at_name, set_register, set_record, set_pinned, record_of, no_fields, field_of, put_field, with_object, HasRecord}
use Rattle.ideal_heap.specs.Tables.{nth_from_one, record_in, object_at, held_at, heap_of_tables}
use Rattle.ideal_heap.proofs.UpdateLemmas.{at_number-cases, at_number-other, at_name-cases, at_name-same, at_name-other}

-- Two ideal heaps that agree everywhere are equal.
pub same_heap : {a b : IdealHeap} → ((n : Name) → a.records n ≡ b.records n) → ((n : Name) → a.pinned n ≡ b.pinned n) → ((g : ℕ) → a.globals g ≡ b.globals g)
    → ((m d : ℕ) → a.registers m d ≡ b.registers m d) → ((m : ℕ) → a.births m ≡ b.births m) → a ≡ b
same_heap records pinned globals registers births = λ i. record {
  records = λ n. records n i;
  pinned = λ n. pinned n i;
  globals = λ g. globals g i;
  registers = λ m d. registers m d i;
  births = λ m. births m i;
}

-- lists that change at one place

slice_get-set_same : {X : Type 0} (xs : List X) (i : ℕ) (y : X) → i < length xs → slice_get (slice_set xs i y) i ≡ Some y
slice_get-set_same [] i y l = absurd (omega (arith, l))
slice_get-set_same (x ∷ xs) zero y l = refl
slice_get-set_same (x ∷ xs) (suc i) y l = slice_get-set_same xs i y (omega (arith, l))

slice_get-set_other : {X : Type 0} (xs : List X) (i : ℕ) (y : X) (q : ℕ) → (q ≡ i → ⊥) → slice_get (slice_set xs i y) q ≡ slice_get xs q
slice_get-set_other [] i y q other = refl
slice_get-set_other (x ∷ xs) zero y zero other = absurd (other refl)
slice_get-set_other (x ∷ xs) zero y (suc q) other = refl
slice_get-set_other (x ∷ xs) (suc i) y zero other = refl
slice_get-set_other (x ∷ xs) (suc i) y (suc q) other = slice_get-set_other xs i y q (λ e. other (ap suc e))

slice_get-push_same : {X : Type 0} (xs : List X) (y : X) → slice_get (xs ++ y ∷ []) (length xs) ≡ Some y
slice_get-push_same [] y = refl
slice_get-push_same (x ∷ xs) y = slice_get-push_same xs y

slice_get-push_other : {X : Type 0} (xs : List X) (y : X) (q : ℕ) → (q ≡ length xs → ⊥) → slice_get (xs ++ y ∷ []) q ≡ slice_get xs q
slice_get-push_other [] y zero other = absurd (other refl)
slice_get-push_other [] y (suc q) other = refl
slice_get-push_other (x ∷ xs) y zero other = refl
slice_get-push_other (x ∷ xs) y (suc q) other = slice_get-push_other xs y q (λ e. other (ap suc e))

at_number-from : {X : Type 0} (f g : ℕ → X) (k : ℕ) (y : X) → g k ≡ y → ((q : ℕ) → (q ≡ k → ⊥) → g q ≡ f q) → (q : ℕ) → g q ≡ at_number f k y q
at_number-from f g k y here other q = elim (at_number-cases f k y q) [
  | inl set ↦ ap g set.0 ∙ here ∙ sym set.1
  | inr kept ↦ other q kept.0 ∙ sym kept.1
]

at_number-map : {X Y : Type 0} (F : X → Y) (f : ℕ → X) (k : ℕ) (y : X) (q : ℕ) → F (at_number f k y q) ≡ at_number (λ j. F (f j)) k (F y) q
at_number-map F f k y q = elim (nat_eq q k) as (λ b. F (if b then y else f q) ≡ (if b then F y else F (f q))) [ true ↦ refl | false ↦ refl ]

at_name-map : {X Y : Type 0} (F : X → Y) (f : Name → X) (k : Name) (y : X) (q : Name) → F (at_name f k y q) ≡ at_name (λ j. F (f j)) k (F y) q
at_name-map F f k y q = elim (same_name q k) as (λ b. F (if b then y else f q) ≡ (if b then F y else F (f q))) [ true ↦ refl | false ↦ refl ]

at_number-here : {X : Type 0} (f : ℕ → X) (k : ℕ) (y : X) (q : ℕ) → q ≡ k → at_number f k y q ≡ y
at_number-here f k y q is = rw (eq-eqb q k is) refl

at_name-here : {X : Type 0} (f : Name → X) (k : Name) (y : X) (q : Name) → q ≡ k → at_name f k y q ≡ y
at_name-here f k y q is = ap (λ n. at_name f k y n) is ∙ at_name-same f k y

-- a change that F does not see
unseen : {X Y : Type 0} (F : X → Y) (f : ℕ → X) (k : ℕ) (y : X) → F y ≡ F (f k) → (q : ℕ) → F (at_number f k y q) ≡ F (f q)
unseen F f k y same q = elim (at_number-cases f k y q) [
  | inl set ↦ ap F set.1 ∙ same ∙ ap (λ j. F (f j)) (sym set.0)
  | inr kept ↦ ap F kept.1
]

as-was : {X : Type 0} (f : Name → X) (k : Name) (y : X) → f k ≡ y → (q : Name) → at_name f k y q ≡ f q
as-was f k y is q = elim (at_name-cases f k y q) [
  | inl set ↦ set.1 ∙ sym is ∙ ap f (sym set.0)
  | inr kept ↦ kept.1
]

-- element k, counted from 1

nth_from_one-pred : {X : Type 0} (xs : List X) (k : ℕ) → 1 ≤ k → nth_from_one xs k ≡ slice_get xs (k - 1)
nth_from_one-pred xs zero low = absurd (omega (arith, low))
nth_from_one-pred xs (suc k) low = let e : k ≡ suc k - 1 = omega arith in ap (λ j. slice_get xs j) e

pub nth_from_one-read : {X : Type 0} (xs : List X) (k : ℕ) (x : X) → 1 ≤ k → k ≤ length xs → x ≡ get_or xs (k - 1) x → nth_from_one xs k ≡ Some x
nth_from_one-read xs k x low high is = nth_from_one-pred xs k low ∙ slice_get_read xs (length xs) (k - 1) x refl (omega (arith, low, high)) is

pub nth_from_one-within : {X : Type 0} (xs : List X) (k : ℕ) (x : X) → nth_from_one xs k ≡ Some x → (1 ≤ k) × (k ≤ length xs)
nth_from_one-within xs zero x is = cc
nth_from_one-within xs (suc k) x is = let l : k < length xs = slice_get_within xs k x is in (omega arith, omega (arith, l))

other-nth_from_one : {X : Type 0} (xs : List X) (i : ℕ) (y : X) (q : ℕ) → (q ≡ suc i → ⊥) → nth_from_one (slice_set xs i y) q ≡ nth_from_one xs q
other-nth_from_one xs i y zero other = refl
other-nth_from_one xs i y (suc q) other = slice_get-set_other xs i y q (λ e. other (ap suc e))

other-pushed : {X : Type 0} (xs : List X) (y : X) (q : ℕ) → (q ≡ suc (length xs) → ⊥) → nth_from_one (xs ++ y ∷ []) q ≡ nth_from_one xs q
other-pushed xs y zero other = refl
other-pushed xs y (suc q) other = slice_get-push_other xs y q (λ e. other (ap suc e))

nth_from_one-set_at : {X : Type 0} (xs : List X) (i : ℕ) (y : X) → i < length xs → (q : ℕ) → nth_from_one (slice_set xs i y) q ≡ at_number (nth_from_one xs) (suc i) (Some y) q
nth_from_one-set_at xs i y l q = at_number-from (nth_from_one xs) (nth_from_one (slice_set xs i y)) (suc i) (Some y) (slice_get-set_same xs i y l) (other-nth_from_one xs i y) q

nth_from_one-set : {X : Type 0} (xs : List X) (k : ℕ) (y : X) → 1 ≤ k → k ≤ length xs → (q : ℕ) → nth_from_one (slice_set xs (k - 1) y) q ≡ at_number (nth_from_one xs) k (Some y) q
nth_from_one-set xs k y low high q =
    let e : suc (k - 1) ≡ k = omega (arith, low) in
    nth_from_one-set_at xs (k - 1) y (omega (arith, low, high)) q ∙ ap (λ j. at_number (nth_from_one xs) j (Some y) q) e

nth_from_one-push : {X : Type 0} (xs : List X) (y : X) (q : ℕ) → nth_from_one (xs ++ y ∷ []) q ≡ at_number (nth_from_one xs) (length xs + 1) (Some y) q
nth_from_one-push xs y q =
    let e : suc (length xs) ≡ length xs + 1 = omega arith in
    at_number-from (nth_from_one xs) (nth_from_one (xs ++ y ∷ [])) (suc (length xs)) (Some y) (slice_get-push_same xs y) (other-pushed xs y) q
    ∙ ap (λ j. at_number (nth_from_one xs) j (Some y) q) e

nth_from_one-past : {X : Type 0} (xs : List X) → nth_from_one xs (length xs + 1) ≡ None
nth_from_one-past xs =
    let e : length xs + 1 ≡ suc (length xs) = omega arith in
    ap (λ j. nth_from_one xs j) e ∙ slice_get_past xs (length xs) (omega arith)

pub held-set : (xs : List (Option Name)) (i : ℕ) (v : Option Name) → i < length xs → (q : ℕ) → held_at (slice_set xs i v) q ≡ at_number (held_at xs) i v q
held-set xs i v l q = at_number-from (held_at xs) (held_at (slice_set xs i v)) i v
    (ap (λ o. unwrap_or o None) (slice_get-set_same xs i v l)) (λ j other. ap (λ o. unwrap_or o None) (slice_get-set_other xs i v j other)) q

pub held-get : (xs : List (Option Name)) (i : ℕ) → get_or xs i None ≡ held_at xs i
held-get xs i = sym (unwrap_or-slice_get xs i None)

-- what is seen of a mutator

abbrev object_in : ℕ → Option Mutator → Option Object
object_in k o = option_and_then (λ x. nth_from_one x.objects.items k) o

abbrev pub register_in : ℕ → Option Mutator → Option Name
register_in d o = option_map_or (λ x. held_at x.registers d) o None

abbrev births_in : Option Mutator → ℕ
births_in o = option_map_or (λ x. length x.objects.items) o 0

abbrev recorded : Option Object → Option Record
recorded o = option_map record_in o

abbrev pinned_in : Option Object → Bool
pinned_in o = option_map_or (λ x. x.pinned) o false

-- the registers after register d of mutator m is set
registers-set : (ms : List Mutator) (gs : List (Option Name)) (m d : ℕ) (v : Option Name) (x y : Mutator) → 1 ≤ m → m ≤ length ms → nth_from_one ms m ≡ Some x
    → d < length x.registers → y.registers ≡ slice_set x.registers d v
    → (m' d' : ℕ) → (heap_of_tables (slice_set ms (m - 1) y) gs).registers m' d' ≡ (set_register (heap_of_tables ms gs) m d v).registers m' d'
registers-set ms gs m d v x y low high is l regs m' d' =
    let all : ℕ → ℕ → Option Name = (heap_of_tables ms gs).registers in
    let own : at_number (all m) d v ≡ at_number (held_at x.registers) d v = ap (λ o. at_number (λ k. register_in k o) d v) is in
    let here : held_at y.registers d' ≡ at_number (held_at x.registers) d v d' = ap (λ r. held_at r d') regs ∙ held-set x.registers d v l d' in
    ap (register_in d') (nth_from_one-set ms m y low high m') ∙ elim (at_number-cases (nth_from_one ms) m (Some y) m') [
      | inl set ↦ ap (register_in d') set.1 ∙ here ∙ ap (λ f. f d') (sym own)
          ∙ ap (λ f. f d') (sym (at_number-here all m (at_number (all m) d v) m' set.0))
      | inr kept ↦ ap (register_in d') kept.1 ∙ ap (λ f. f d') (sym (at_number-other all m (at_number (all m) d v) m' kept.0))
    ]

pub heap-registers : (ms : List Mutator) (gs : List (Option Name)) (m d : ℕ) (v : Option Name) (x y : Mutator) → 1 ≤ m → m ≤ length ms → nth_from_one ms m ≡ Some x
    → d < length x.registers → y.registers ≡ slice_set x.registers d v → y.objects.items ≡ x.objects.items
    → heap_of_tables (slice_set ms (m - 1) y) gs ≡ set_register (heap_of_tables ms gs) m d v
heap-registers ms gs m d v x y low high is l regs objects =
    let seen : (k : ℕ) → object_in k (Some y) ≡ object_in k (nth_from_one ms m) = λ k. ap (λ l. nth_from_one l k) objects ∙ ap (object_in k) (sym is) in
    let object : (n : Name) → object_at (slice_set ms (m - 1) y) n ≡ object_at ms n = λ n.
    ap (object_in n.birth) (nth_from_one-set ms m y low high n.mutator) ∙ unseen (object_in n.birth) (nth_from_one ms) m (Some y) (seen n.birth) n.mutator in
    same_heap
    (λ n. ap recorded (object n))
    (λ n. ap pinned_in (object n))
    (λ g. refl)
    (registers-set ms gs m d v x y low high is l regs)
    (λ k. ap births_in (nth_from_one-set ms m y low high k) ∙ unseen births_in (nth_from_one ms) m (Some y) (ap length objects ∙ ap births_in (sym is)) k)

-- the objects of mutator m, if its object k is o
object-at : (ms : List Mutator) (n : Name) (x y : Mutator) (o : Object) → 1 ≤ n.mutator → n.mutator ≤ length ms → nth_from_one ms n.mutator ≡ Some x
    → ((k : ℕ) → nth_from_one y.objects.items k ≡ at_number (nth_from_one x.objects.items) n.birth (Some o) k)
    → (q : Name) → object_at (slice_set ms (n.mutator - 1) y) q ≡ at_name (object_at ms) n (Some o) q
object-at ms n x y o low high is objects q = ap (object_in q.birth) (nth_from_one-set ms n.mutator y low high q.mutator) ∙ elim (at_number-cases (nth_from_one ms) n.mutator (Some y) q.mutator) [
  | inl set ↦ ap (object_in q.birth) set.1 ∙ objects q.birth ∙ elim (at_number-cases (nth_from_one x.objects.items) n.birth (Some o) q.birth) [
    | inl birth ↦ birth.1 ∙ sym (at_name-here (object_at ms) n (Some o) q (ap (λ m. name m q.birth) set.0 ∙ ap (λ k. name n.mutator k) birth.0))
    | inr older ↦ older.1 ∙ ap (object_in q.birth) (sym is) ∙ ap (λ m. object_in q.birth (nth_from_one ms m)) (sym set.0)
        ∙ sym (at_name-other (object_at ms) n (Some o) q (λ e. older.0 (ap (λ k. k.birth) e)))
  ]
  | inr kept ↦ ap (object_in q.birth) kept.1 ∙ sym (at_name-other (object_at ms) n (Some o) q (λ e. kept.0 (ap (λ k. k.mutator) e)))
]

pub heap-object : (ms : List Mutator) (gs : List (Option Name)) (n : Name) (x y : Mutator) (o : Object) → 1 ≤ n.mutator → n.mutator ≤ length ms → 1 ≤ n.birth → n.birth ≤ length x.objects.items
    → nth_from_one ms n.mutator ≡ Some x → y.registers ≡ x.registers → y.objects.items ≡ slice_set x.objects.items (n.birth - 1) o
    → heap_of_tables (slice_set ms (n.mutator - 1) y) gs ≡ set_pinned (set_record (heap_of_tables ms gs) n (record_in o)) n o.pinned
heap-object ms gs n x y o low high born_low born_high is regs objects =
    let each : (k : ℕ) → nth_from_one y.objects.items k ≡ at_number (nth_from_one x.objects.items) n.birth (Some o) k =
    λ k. ap (λ l. nth_from_one l k) objects ∙ nth_from_one-set x.objects.items n.birth o born_low born_high k in
    let object : (q : Name) → object_at (slice_set ms (n.mutator - 1) y) q ≡ at_name (object_at ms) n (Some o) q = object-at ms n x y o low high is each in
    let many : length y.objects.items ≡ length x.objects.items = ap length objects ∙ length-set x.objects.items (n.birth - 1) o in
    same_heap
    (λ q. ap recorded (object q) ∙ at_name-map recorded (object_at ms) n (Some o) q)
    (λ q. ap pinned_in (object q) ∙ at_name-map pinned_in (object_at ms) n (Some o) q)
    (λ g. refl)
    (λ m d. ap (register_in d) (nth_from_one-set ms n.mutator y low high m) ∙ unseen (register_in d) (nth_from_one ms) n.mutator (Some y) (ap (λ r. held_at r d) regs ∙ ap (register_in d) (sym is)) m)
    (λ m. ap births_in (nth_from_one-set ms n.mutator y low high m) ∙ unseen births_in (nth_from_one ms) n.mutator (Some y) (many ∙ ap births_in (sym is)) m)

-- a record or a pin that is set to what it was
pub pinned-again : (h : IdealHeap) (n : Name) (b : Bool) → h.pinned n ≡ b → set_pinned h n b ≡ h
pinned-again h n b is = same_heap (λ q. refl) (as-was h.pinned n b is) (λ g. refl) (λ m d. refl) (λ m. refl)

pub recorded-again : (h : IdealHeap) (n : Name) (x : Record) → h.records n ≡ Some x → set_record h n x ≡ h
recorded-again h n x is = same_heap (as-was h.records n (Some x) is) (λ q. refl) (λ g. refl) (λ m d. refl) (λ m. refl)

-- one more object of mutator m
pub heap-push : (ms : List Mutator) (gs : List (Option Name)) (m : ℕ) (x y : Mutator) (o : Object) → 1 ≤ m → m ≤ length ms → nth_from_one ms m ≡ Some x
    → y.registers ≡ x.registers → y.objects.items ≡ x.objects.items ++ o ∷ [] → o.pinned ≡ false
    → heap_of_tables (slice_set ms (m - 1) y) gs ≡ with_object (heap_of_tables ms gs) m (record_in o)
heap-push ms gs m x y o low high is regs objects unpinned =
    let h : IdealHeap = heap_of_tables ms gs in
    let count : length x.objects.items + 1 ≡ h.births m + 1 = ap (λ q. births_in q + 1) (sym is) in
    let n : Name = name m (length x.objects.items + 1) in
    let each : (k : ℕ) → nth_from_one y.objects.items k ≡ at_number (nth_from_one x.objects.items) (length x.objects.items + 1) (Some o) k =
    λ k. ap (λ l. nth_from_one l k) objects ∙ nth_from_one-push x.objects.items o k in
    let object : (q : Name) → object_at (slice_set ms (m - 1) y) q ≡ at_name (object_at ms) n (Some o) q = object-at ms n x y o low high is each in
    let none : h.pinned n ≡ false = ap (λ q. pinned_in (object_in (length x.objects.items + 1) q)) is ∙ ap pinned_in (nth_from_one-past x.objects.items) in
    same_heap
    (λ q. ap recorded (object q) ∙ at_name-map recorded (object_at ms) n (Some o) q
    ∙ ap (λ k. at_name h.records (name m k) (Some (record_in o)) q) count)
    (λ q. ap pinned_in (object q) ∙ at_name-map pinned_in (object_at ms) n (Some o) q ∙ ap (λ b. at_name h.pinned n b q) unpinned ∙ as-was h.pinned n false none q)
    (λ g. refl)
    (λ k d. ap (register_in d) (nth_from_one-set ms m y low high k) ∙ unseen (register_in d) (nth_from_one ms) m (Some y) (ap (λ r. held_at r d) regs ∙ ap (register_in d) (sym is)) k)
    (λ k. ap births_in (nth_from_one-set ms m y low high k) ∙ at_number-map births_in (nth_from_one ms) m (Some y) k
    ∙ ap (λ j. at_number h.births m j k) (ap length objects ∙ length_push x.objects.items o ∙ count))

-- a mutator that is unchanged
pub heap-same : (ms : List Mutator) (gs : List (Option Name)) (m : ℕ) (x y : Mutator) → 1 ≤ m → m ≤ length ms → nth_from_one ms m ≡ Some x
    → y.registers ≡ x.registers → y.objects.items ≡ x.objects.items → heap_of_tables (slice_set ms (m - 1) y) gs ≡ heap_of_tables ms gs
heap-same ms gs m x y low high is regs objects =
    let seen : (k : ℕ) → object_in k (Some y) ≡ object_in k (nth_from_one ms m) = λ k. ap (λ l. nth_from_one l k) objects ∙ ap (object_in k) (sym is) in
    let object : (n : Name) → object_at (slice_set ms (m - 1) y) n ≡ object_at ms n = λ n.
    ap (object_in n.birth) (nth_from_one-set ms m y low high n.mutator) ∙ unseen (object_in n.birth) (nth_from_one ms) m (Some y) (seen n.birth) n.mutator in
    same_heap
    (λ n. ap recorded (object n))
    (λ n. ap pinned_in (object n))
    (λ g. refl)
    (λ k d. ap (register_in d) (nth_from_one-set ms m y low high k) ∙ unseen (register_in d) (nth_from_one ms) m (Some y) (ap (λ r. held_at r d) regs ∙ ap (register_in d) (sym is)) k)
    (λ k. ap births_in (nth_from_one-set ms m y low high k) ∙ unseen births_in (nth_from_one ms) m (Some y) (ap length objects ∙ ap births_in (sym is)) k)

nth_from_one-nil : {X : Type 0} (k : ℕ) → nth_from_one {X = X} [] k ≡ None
nth_from_one-nil zero = refl
nth_from_one-nil (suc k) = refl

held-nils : (n i : ℕ) → held_at (replicate n None) i ≡ None
held-nils zero i = refl
held-nils (suc n) zero = refl
held-nils (suc n) (suc i) = held-nils n i

-- one more mutator, without objects
pub heap-blank : (ms : List Mutator) (gs : List (Option Name)) (x : Mutator) → x.registers ≡ replicate 16 None → x.objects.items ≡ [] → heap_of_tables (ms ++ x ∷ []) gs ≡ heap_of_tables ms gs
heap-blank ms gs x regs objects =
    let object : (n : Name) → object_at (ms ++ x ∷ []) n ≡ object_at ms n = λ n.
    ap (object_in n.birth) (nth_from_one-push ms x n.mutator)
    ∙ unseen (object_in n.birth) (nth_from_one ms) (length ms + 1) (Some x) (ap (λ l. nth_from_one l n.birth) objects ∙ nth_from_one-nil n.birth ∙ ap (object_in n.birth) (sym (nth_from_one-past ms))) n.mutator in
    same_heap
    (λ n. ap recorded (object n))
    (λ n. ap pinned_in (object n))
    (λ g. refl)
    (λ m d. ap (register_in d) (nth_from_one-push ms x m)
    ∙ unseen (register_in d) (nth_from_one ms) (length ms + 1) (Some x) (ap (λ r. held_at r d) regs ∙ held-nils 16 d ∙ ap (register_in d) (sym (nth_from_one-past ms))) m)
    (λ m. ap births_in (nth_from_one-push ms x m)
    ∙ unseen births_in (nth_from_one ms) (length ms + 1) (Some x) (ap length objects ∙ ap births_in (sym (nth_from_one-past ms))) m)

pub heap-empty : heap_of_tables [] (replicate 16 None) ≡ empty
heap-empty = same_heap
    (λ n. ap (λ o. recorded (object_in n.birth o)) (nth_from_one-nil n.mutator))
    (λ n. ap (λ o. pinned_in (object_in n.birth o)) (nth_from_one-nil n.mutator))
    (held-nils 16)
    (λ m d. ap (register_in d) (nth_from_one-nil m))
    (λ m. ap births_in (nth_from_one-nil m))

-- the position of an object in the tables

object-there : (l : List Object) (k : ℕ) (o : Option Object) → nth_from_one l k ≡ o → is_some (recorded o) ≡ true → (1 ≤ k) × (k ≤ length l)
object-there l k None is born_there = cc
object-there l k (Some o) is born_there = nth_from_one-within l k o is

mutator-there : (ms : List Mutator) (m k : ℕ) (o : Option Mutator) → nth_from_one ms m ≡ o → is_some (recorded (object_in k o)) ≡ true
    → (1 ≤ m) × (m ≤ length ms) × ((x : Mutator) → o ≡ Some x → (1 ≤ k) × (k ≤ length x.objects.items))
mutator-there ms m k None is born_there = cc
mutator-there ms m k (Some x) is born_there =
    let within : (1 ≤ m) × (m ≤ length ms) = nth_from_one-within ms m x is in (
      within.0,
      within.1,
      λ y same. object-there y.objects.items k (nth_from_one y.objects.items k) refl
          (ap (λ o. is_some (recorded (object_in k o))) (sym same) ∙ born_there),
    )

pub record IsPlace (ms : List Mutator) (n : Name) (x : Mutator) (o : Object) : Type 0 where
  pub low : 1 ≤ n.mutator
  pub high : n.mutator ≤ length ms
  pub born_low : 1 ≤ n.birth
  pub born_high : n.birth ≤ length x.objects.items
  pub mutator : nth_from_one ms n.mutator ≡ Some x
  pub object : nth_from_one x.objects.items n.birth ≡ Some o

-- what the two reads on the way to an object give
pub placed : (ms : List Mutator) (gs : List (Option Name)) (n : Name) (x : Mutator) (o : Object) → HasRecord (heap_of_tables ms gs) n
    → x ≡ get_or ms (n.mutator - 1) x → o ≡ get_or x.objects.items (n.birth - 1) o → IsPlace ms n x o
placed ms gs n x o is_born x_is o_is =
    let there : (1 ≤ n.mutator) × (n.mutator ≤ length ms) × ((y : Mutator) → nth_from_one ms n.mutator ≡ Some y → (1 ≤ n.birth) × (n.birth ≤ length y.objects.items)) =
    mutator-there ms n.mutator n.birth (nth_from_one ms n.mutator) refl is_born in
    let mine : nth_from_one ms n.mutator ≡ Some x = nth_from_one-read ms n.mutator x there.0 there.1 x_is in
    let within : (1 ≤ n.birth) × (n.birth ≤ length x.objects.items) = there.2 x mine in
    record {
      low = there.0;
      high = there.1;
      born_low = within.0;
      born_high = within.1;
      mutator = mine;
      object = nth_from_one-read x.objects.items n.birth o within.0 within.1 o_is;
    }

pub record-there : (ms : List Mutator) (gs : List (Option Name)) (n : Name) (x : Mutator) (o : Object) → IsPlace ms n x o → (heap_of_tables ms gs).records n ≡ Some (record_in o)
record-there ms gs n x o at = ap (λ q. recorded (object_in n.birth q)) at.mutator ∙ ap recorded at.object

pub pinned-there : (ms : List Mutator) (gs : List (Option Name)) (n : Name) (x : Mutator) (o : Object) → IsPlace ms n x o → (heap_of_tables ms gs).pinned n ≡ o.pinned
pinned-there ms gs n x o at = ap (λ q. pinned_in (object_in n.birth q)) at.mutator ∙ ap pinned_in at.object

-- an object whose record alone changes, by f, and one whose pin alone does
pub heap-record : (ms : List Mutator) (gs : List (Option Name)) (n : Name) (x y : Mutator) (o p : Object) (f : Record → Record) → IsPlace ms n x o
    → y.registers ≡ x.registers → y.objects.items ≡ slice_set x.objects.items (n.birth - 1) p → record_in p ≡ f (record_in o) → p.pinned ≡ o.pinned
    → heap_of_tables (slice_set ms (n.mutator - 1) y) gs ≡ set_record (heap_of_tables ms gs) n (f (record_of (heap_of_tables ms gs) n))
heap-record ms gs n x y o p f at regs objects changed pinned =
    let h : IdealHeap = heap_of_tables ms gs in
    let was : record_in o ≡ record_of h n = sym (ap (λ q. unwrap_or q no_fields) (record-there ms gs n x o at)) in
    heap-object ms gs n x y p at.low at.high at.born_low at.born_high at.mutator regs objects
    ∙ pinned-again (set_record h n (record_in p)) n p.pinned (pinned-there ms gs n x o at ∙ sym pinned)
    ∙ ap (λ r. set_record h n r) (changed ∙ ap f was)

pub heap-pinned : (ms : List Mutator) (gs : List (Option Name)) (n : Name) (x y : Mutator) (o p : Object) (b : Bool) → IsPlace ms n x o
    → y.registers ≡ x.registers → y.objects.items ≡ slice_set x.objects.items (n.birth - 1) p → record_in p ≡ record_in o → p.pinned ≡ b
    → heap_of_tables (slice_set ms (n.mutator - 1) y) gs ≡ set_pinned (heap_of_tables ms gs) n b
heap-pinned ms gs n x y o p b at regs objects same pinned =
    let h : IdealHeap = heap_of_tables ms gs in
    heap-object ms gs n x y p at.low at.high at.born_low at.born_high at.mutator regs objects
    ∙ ap (λ k. set_pinned k n p.pinned) (ap (λ r. set_record h n r) same ∙ recorded-again h n (record_in o) (record-there ms gs n x o at))
    ∙ ap (λ c. set_pinned h n c) pinned

pub field-put : (xs : List (Option Name)) (nums : List ℕ) (i : ℕ) (v : Option Name)
    → (let r : Record = record { refs = map field_of (slice_set xs i v); nums = nums } in r) ≡ put_field (record { refs = map field_of xs; nums = nums }) i (field_of v)
field-put xs nums i v = ap (λ l. let r : Record = record { refs = l; nums = nums } in r) (map-set field_of xs i v)
