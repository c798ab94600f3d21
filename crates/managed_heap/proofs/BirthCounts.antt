-- How many objects mutators have allocated, before and after a step of a stop.
use Rattle.std.proofs.Common.{◌≡◌, refl, sym, ◌∙◌, ap, ℕ, suc, zero, ◌+◌, ◌<◌, ◌≤◌, arith, List, [], ◌∷◌, length, map, Some}
use Rattle.std.specs.Prelude.{slice_get}
use Rattle.std.proofs.lemmas.List.{length-map}
use Rattle.sessions.specs.Sessions.{birth_count}
use Rattle.sessions.proofs.SameStates.{first_count, other_counts}
use Rattle.mutator_calls.specs.declared.need.Mutator.{Mutator}
use Rattle.heap_users.specs.Users.{mutator_state}
use Rattle.block_regions.proofs.Lists.{get-below, get-some, one-element}
use Rattle.ideal_heap.specs.declared.name.Name.{Name}
use Rattle.mutator_calls.specs.declared.need.Need.{Need}
use Rattle.managed_heap.specs.declared.stopped_heap.StoppedHeap.{StoppedHeap}
use Rattle.managed_heap.specs.Needs.{AddsBirths, MutatorAllocatesAt, MayAllocate, with_new_object}

abbrev pub counts_of : List Mutator → List (ℕ × ℕ)
counts_of us = map birth_count (map mutator_state us)

pub as-many : (us vs : List Mutator) → counts_of us ≡ counts_of vs → length us ≡ length vs
as-many us vs same = sym (length-map us mutator_state) ∙ sym (length-map (map mutator_state us) birth_count) ∙ ap length same
    ∙ length-map (map mutator_state vs) birth_count ∙ length-map vs mutator_state

pub births-from : (us vs : List Mutator) → counts_of us ≡ counts_of vs → (k : ℕ) (u : Mutator) → slice_get us k ≡ Some u
    → (v : Mutator) × (slice_get vs k ≡ Some v) × (u.births ≡ v.births)
births-from [] vs same k u is = absurd (let below : k < 0 = get-below {A = Mutator} [] k u is in omega arith)
births-from (x ∷ us) [] same k u is = absurd (let many : length (x ∷ us) ≡ 0 = as-many (x ∷ us) [] same in omega arith)
births-from (x ∷ us) (y ∷ vs) same zero u is =
    (y, refl, ap (λ (m : Mutator). m.births) (one-element (Some x) u x is refl) ∙ ap (λ (p : ℕ × ℕ). p.1) (ap (first_count (0, 0)) same))
births-from (x ∷ us) (y ∷ vs) same (suc k) u is = births-from us vs (ap other_counts same) k u is

-- a collection adds no birth
pub none-added : (old new : List Mutator) (m : ℕ) → counts_of new ≡ counts_of old → AddsBirths old m 0 new
none-added old new m same = record {
  count = as-many new old same;
  own = λ k u v at was is. equal k u v was is;
  others = λ k u v other was is. equal k u v was is ∙ (let e : u.births + 0 ≡ u.births = omega arith in e);
}
  where
    equal : (k : ℕ) (u v : Mutator) → slice_get old k ≡ Some u → slice_get new k ≡ Some v → v.births ≡ u.births + 0
    equal k u v was is =
        let from = births-from new old same k v is in
        let there : from.0 ≡ u = one-element (slice_get old k) from.0 u from.1 was in
        let births : from.0.births ≡ u.births = ap (λ (x : Mutator). x.births) there in
        let own : v.births ≡ from.0.births = from.2 in
        omega arith

pub same-added : (old new : List Mutator) (m : ℕ) → new ≡ old → AddsBirths old m 0 new
same-added old new m same = none-added old new m (ap counts_of same)

-- one step after another, of which the first adds none
pub added-after : (old mid new : List Mutator) (m more : ℕ) → AddsBirths old m 0 mid → AddsBirths mid m more new → AddsBirths old m more new
added-after old mid new m more first then = record {
  count = then.count ∙ first.count;
  own = λ k u v at was is.
      let x = between k u was in
      let one : x.0.births ≡ u.births + 0 = first.own k u x.0 at was x.1 in
      let two : v.births ≡ x.0.births + more = then.own k x.0 v at x.1 is in
      omega arith;
  others = λ k u v other was is. let x = between k u was in then.others k x.0 v other x.1 is ∙ first.others k u x.0 other was x.1;
}
  where
    between : (k : ℕ) (u : Mutator) → slice_get old k ≡ Some u → (x : Mutator) × (slice_get mid k ≡ Some x)
    between k u was = get-some mid k (let below : k < length old = get-below old k u was in let same : length mid ≡ length old = first.count in omega arith)

-- a birth at a place
pub one-added : (old new : List Mutator) (k m d a : ℕ) (n : Name) → k + 1 ≡ m → MutatorAllocatesAt old new k m d a n → AddsBirths old m 1 new
one-added old new k m d a n place bears = record {
  count = bears.change.len;
  own = λ j u v at was is.
      let here : j ≡ k = omega arith in
      let old-one : u ≡ bears.mutator = one-element (slice_get old k) u bears.mutator (ap (slice_get old) (sym here) ∙ was) bears.was in
      let new-one : v ≡ with_new_object bears.mutator d a = one-element (slice_get new k) v (with_new_object bears.mutator d a) (ap (slice_get new) (sym here) ∙ is) bears.change.here in
      let before : u.births ≡ bears.mutator.births = ap (λ (x : Mutator). x.births) old-one in
      let after : v.births ≡ bears.mutator.births + 1 = ap (λ (x : Mutator). x.births) new-one in
      omega arith;
  others = λ j u v other was is.
      let same : slice_get new j ≡ slice_get old j = bears.change.others j (λ e. other (omega arith)) in
      ap (λ (x : Mutator). x.births) (one-element (slice_get old j) v u (sym same ∙ is) was);
}

-- a mutator that has allocated no more may allocate as before
pub may-kept : {P : Type 0} (old new : StoppedHeap P) (m : ℕ) (need : Need) → AddsBirths old.mutators.items m 0 new.mutators.items → MayAllocate old m need → MayAllocate new m need
may-kept old new m need none may = record {
  least = may.least;
  most = (let most : m ≤ length old.mutators.items = may.most in let same : length new.mutators.items ≡ length old.mutators.items = none.count in omega arith);
  valid = may.valid;
  births = λ k v at is.
      let below : k < length old.mutators.items = (let most : m ≤ length old.mutators.items = may.most in omega arith) in
      let u = get-some old.mutators.items k below in
      let few : u.0.births + 1 < 4294967296 = may.births k u.0 at u.1 in
      let same : v.births ≡ u.0.births + 0 = none.own k u.0 v at u.1 is in
      omega arith;
}
