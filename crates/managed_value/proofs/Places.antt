-- The mutators of a managed heap by their places: numbers and births.
use Rattle.std.proofs.Common.{◌≡◌, ◌≢◌, refl, sym, ◌∙◌, ap, subst, ℕ, zero, suc, ◌+◌, ◌<◌, ◌≤◌, inl, inr, arith, List, [], ◌∷◌, length, map, Some, None, Option}
use Rattle.std.specs.Prelude.{slice_get, slice_index}
use Rattle.std.specs.List.{range_with_len}
use Rattle.std.proofs.lemmas.Bool.{cases_lt}
use Rattle.std.proofs.lemmas.List.{length-map}
use Rattle.std.proofs.lemmas.List.FromFn.{get_or-range_with_len, length-range_with_len}
use Rattle.ideal_heap.specs.Runs.{Entry}
use Rattle.object_model.specs.Graphs.{MutatorState, new_mutator}
use Rattle.sessions.specs.Plans.{Rules}
use Rattle.sessions.specs.Sessions.{birth_count}
use Rattle.mutator_calls.specs.declared.need.Mutator.{Mutator}
use Rattle.heap_users.specs.Users.{mutator_state}
use Rattle.block_regions.proofs.Lists.{get-some}
use Rattle.managed_heap.specs.Worlds.{births_of, mutator_number, PlainWorld, mutator_number_at, places_of, births_at as births_in, IsOpen}
use Rattle.managed_heap.specs.Needs.{AddsBirths}
use Rattle.managed_value.specs.declared.managed.ManagedHeap.{ManagedHeap}
use Rattle.managed_value.specs.Histories.{HasEntries, HeapHasPlace, IsSince, IsUsable, heap_births_at, born_to, mutators_of_heap, places_in}

number-mapped : (xs : List Mutator) (k : ℕ) → mutator_number (slice_get xs k) ≡ slice_index (map (λ m. m.number) xs) k
number-mapped [] k = refl
number-mapped (x ∷ xs) zero = refl
number-mapped (x ∷ xs) (suc k) = number-mapped xs k

-- what the entries say, of the world that is here
pub since-here : {P : Type 0} (rules : Rules) (h : ManagedHeap P) (w : PlainWorld P) (es : List Entry) (has : HasEntries rules h es) → h.world ≡ Some w
    → IsSince rules h w has.now has.part
since-here rules h w es has here =
    let both : Some has.world ≡ Some w = sym has.here ∙ here in
    let same : has.world ≡ w = cc in
    subst (λ x. IsSince rules h x has.now has.part) same has.since

-- the mutator at place m has the number m + 1
pub number-here : {P : Type 0} (rules : Rules) (h : ManagedHeap P) (w : PlainWorld P) (m : ℕ) (es : List Entry) → HasEntries rules h es → h.world ≡ Some w → m < places_of w
    → mutator_number_at w m ≡ m + 1
number-here rules h w m es has here below =
    let since : IsSince rules h w has.now has.part = since-here rules h w es has here in
    let n : ℕ = length since.setting.traces in
    let listed : map (λ (u : Mutator). u.number) w.row.mutators.items ≡ range_with_len 1 n = since.history.at.numbers ∙ since.sound.listed in
    let many : length w.row.mutators.items ≡ n = sym (length-map w.row.mutators.items (λ (u : Mutator). u.number)) ∙ ap length listed ∙ length-range_with_len 1 n in
    number-mapped w.row.mutators.items m ∙ ap (λ ns. slice_index ns m) listed ∙ get_or-range_with_len 1 n m 0 (omega arith) ∙ omega arith

abbrev births-state : Option MutatorState → ℕ
births-state None = 0
births-state (Some m) = m.births

births-mapped : (xs : List Mutator) (k : ℕ) → births_of (slice_get xs k) ≡ births-state (slice_get (map mutator_state xs) k)
births-mapped [] k = refl
births-mapped (x ∷ xs) zero = refl
births-mapped (x ∷ xs) (suc k) = births-mapped xs k

-- the same states have the same births
pub births-same : (old new : List Mutator) → map mutator_state new ≡ map mutator_state old → (k : ℕ) → births_of (slice_get new k) ≡ births_of (slice_get old k)
births-same old new same k = births-mapped new k ∙ ap (λ (ms : List MutatorState). births-state (slice_get ms k)) same ∙ sym (births-mapped old k)

-- lists of the same states are as long
pub long-same : (old new : List Mutator) → map mutator_state new ≡ map mutator_state old → length new ≡ length old
long-same old new same = sym (length-map new mutator_state) ∙ ap length same ∙ length-map old mutator_state

births-new : (ns : List ℕ) (k : ℕ) → births-state (slice_get (map new_mutator ns) k) ≡ 0
births-new [] k = refl
births-new (n ∷ ns) zero = refl
births-new (n ∷ ns) (suc k) = births-new ns k

-- new mutators have allocated nothing
pub births-none-yet : (us : List Mutator) (ns : List ℕ) → map mutator_state us ≡ map new_mutator ns → (k : ℕ) → births_of (slice_get us k) ≡ 0
births-none-yet us ns same k = births-mapped us k ∙ ap (λ (ms : List MutatorState). births-state (slice_get ms k)) same ∙ births-new ns k

abbrev births-count : Option (ℕ × ℕ) → ℕ
births-count None = 0
births-count (Some p) = p.1

births-counted : (xs : List Mutator) (k : ℕ) → births_of (slice_get xs k) ≡ births-count (slice_get (map birth_count (map mutator_state xs)) k)
births-counted [] k = refl
births-counted (x ∷ xs) zero = refl
births-counted (x ∷ xs) (suc k) = births-counted xs k

-- a collection keeps the counts of births
pub births-kept : (old new : List Mutator) → map birth_count (map mutator_state new) ≡ map birth_count (map mutator_state old) → (k : ℕ) → births_of (slice_get new k) ≡ births_of (slice_get old k)
births-kept old new same k = births-counted new k ∙ ap (λ (ps : List (ℕ × ℕ)). births-count (slice_get ps k)) same ∙ sym (births-counted old k)

births-past : (xs : List Mutator) (k : ℕ) → length xs ≤ k → births_of (slice_get xs k) ≡ 0
births-past [] k past = refl
births-past (x ∷ xs) zero past = absurd (let many : length (x ∷ xs) ≡ suc (length xs) = refl in omega arith)
births-past (x ∷ xs) (suc k) past = births-past xs k (let many : length (x ∷ xs) ≡ suc (length xs) = refl in omega arith)

-- the mutator at place m has allocated more objects
module _ (old new : List Mutator) (m more : ℕ) (adds : AddsBirths old (m + 1) more new) where
  pub births-own : m < length old → births_of (slice_get new m) ≡ births_of (slice_get old m) + more
  births-own below =
      let u = get-some old m below in
      let v = get-some new m (let same : length new ≡ length old = adds.count in omega arith) in
      ap births_of v.1 ∙ adds.own m u.0 v.0 refl u.1 v.1 ∙ ap (λ o. births_of o + more) (sym u.1)

  pub births-others : (k : ℕ) → k ≢ m → births_of (slice_get new k) ≡ births_of (slice_get old k)
  births-others k other = elim (cases_lt k (length old)) as (λ _. births_of (slice_get new k) ≡ births_of (slice_get old k)) [
    | inl below ↦ (
        let u = get-some old k below in
        let v = get-some new k (let same : length new ≡ length old = adds.count in omega arith) in
        ap births_of v.1 ∙ adds.others k u.0 v.0 (λ e. other (omega arith)) u.1 v.1 ∙ ap births_of (sym u.1))
    | inr past ↦ births-past new k (let same : length new ≡ length old = adds.count in omega arith) ∙ sym (births-past old k past)
  ]

-- the world of a heap in use
module _ {P : Type 0} (rules : Rules) (h : ManagedHeap P) where
  pub not-lost : IsUsable rules h → h.world ≡ None → ⊥
  not-lost usable lost = let wrong : Some usable.world ≡ None = sym usable.here ∙ lost in cc

  module _ (w : PlainWorld P) (here : h.world ≡ Some w) where
    same-world : (usable : IsUsable rules h) → usable.world ≡ w
    same-world usable = let both : Some usable.world ≡ Some w = sym usable.here ∙ here in cc

    pub open-here : IsUsable rules h → IsOpen rules w
    open-here usable = subst (λ (x : PlainWorld P). IsOpen rules x) (same-world usable) usable.between_calls

    pub place-here : (m : ℕ) → HeapHasPlace h m → m < places_of w
    place-here m place = subst (λ (o : Option (PlainWorld P)). m < places_in o) here place

    pub births-of-world : (m : ℕ) → births_in w m ≡ heap_births_at h m
    births-of-world m = ap (λ (o : Option (PlainWorld P)). born_to o m) (sym here)

  -- there is a mutator, and there are few
  pub some-there : IsUsable rules h → 1 ≤ mutators_of_heap h
  some-there usable = subst (λ (o : Option (PlainWorld P)). 1 ≤ places_in o) (sym usable.here) usable.some

  pub few-there : IsUsable rules h → mutators_of_heap h ≤ 16
  few-there usable = subst (λ (o : Option (PlainWorld P)). places_in o ≤ 16) (sym usable.here) usable.few
