-- A finished walk has visited exactly the reachable objects.
use Rattle.std.proofs.Common.{◌≡◌, ◌≢◌, sym, ◌∙◌, subst, ℕ, ◌<◌, inl, inr, arith, List, [], length, slice_index, slice_index_or, nat_eq, IsTrue}
use Rattle.std.specs.List.{All, AllPairs, Contains, IsDistinct}
use Rattle.std.specs.List.Sorted.{IsPermutation, IsSortedByKey}
use Rattle.std.proofs.lemmas.List.{get_or_default, get_or_past, get_or-map, length-map}
use Rattle.std.proofs.lemmas.List.Elements.{All-append, All-nil, All-weaker, All-contains}
use Rattle.std.proofs.lemmas.List.Sorted.{All-permutation, Contains-permutation, IsPermutation-map, IsPermutation-sym}
use Rattle.std.proofs.lemmas.Map.Keys.{IsDistinct-IsPermutation}
use Rattle.std.proofs.lemmas.Map.Made.{AllPairs-from_IsDistinct}
use Rattle.std.proofs.lemmas.Map.Views.{Contains-from_any}
use Rattle.std.proofs.lemmas.Bool.{cases_lt, eqb-true}
use Rattle.std.proofs.lemmas.Bool.Decides.{Decides-eqb}
use Rattle.std.proofs.lemmas.Cmp.{nat_eq_equiv}
use Rattle.ideal_heap.proofs.NameLemmas.{compare, rise}
use Rattle.heap_graph.specs.declared.place.Place.{Place}
use Rattle.object_model.specs.Objects.{HeapState, global_at, IsHeld, name_at, refs_at, ref_at}
use Rattle.object_model.specs.Lawful.{IsWellFormed}
use Rattle.object_model.specs.Graphs.{IsReachable, from_root, from_global, from_field}
use Rattle.object_model.proofs.References.{refers-some}
use Rattle.heap_graph.specs.Places.{AreReached, IsPlaceOfObject, IsGraphOf, addresses_of}
use Rattle.heap_graph.specs.Walks.{is_among, Adds, HasFields, ClosesFields}
use Rattle.heap_graph.proofs.WalkLemmas.{among-more}

module _ (s : HeapState) (roots first second last : List ℕ)
    (from_roots : Adds (λ i. slice_index roots i) (length roots) [] first) (from_globals : Adds (global_at s) 16 first second) (closes : ClosesFields s (length last) second last) where
  -- every reachable object was visited

  kept : (a : ℕ) → IsTrue (is_among first a) → IsTrue (is_among last a)
  kept a there = closes.kept a (subst (λ l. IsTrue (is_among l a)) (sym from_globals.is) (among-more first from_globals.more a there))

  root-met : (i : ℕ) → 0 < slice_index roots i → IsTrue (is_among last (slice_index roots i))
  root-met i some = elim (cases_lt i (length roots)) as (λ _. IsTrue (is_among last (slice_index roots i))) [
    | inl inside ↦ kept (slice_index roots i) (from_roots.there i inside (omega arith))
    | inr past ↦ (let nil : slice_index roots i ≡ 0 = get_or_past roots i 0 past in absurd (omega arith))
  ]

  field-met : (x i : ℕ) → IsTrue (is_among last x) → i < refs_at s x → 0 < ref_at s x i → IsTrue (is_among last (ref_at s x i))
  field-met x i met less some =
      let place = Contains-from_any eqb-true x last met in
      let here : slice_index last place.0 ≡ x = get_or_default last place.0 0 x place.1 ∙ place.2 in
      subst (HasFields s last) here (closes.closed place.0 place.1) i less (omega arith)

  arrives-met : (a : ℕ) → IsReachable s roots a → IsTrue (is_among last a)
  arrives-met a (from_root i e some) = subst (λ x. IsTrue (is_among last x)) e (root-met i (subst (λ (x : ℕ). 0 < x) (sym e) some))
  arrives-met a (from_global g small e some) =
      let there : 0 < global_at s g = subst (λ (x : ℕ). 0 < x) (sym e) some in
      subst (λ x. IsTrue (is_among last x)) e (closes.kept (global_at s g) (from_globals.there g small (omega arith)))
  arrives-met a (from_field x i before less e some) =
      subst (λ y. IsTrue (is_among last y)) e (field-met x i (arrives-met x before) less (let there : a ≢ 0 = refers-some a some in let from : ref_at s x i ≡ a = e in omega arith))

  pub arrives-contained : (a : ℕ) → IsReachable s roots a → Contains last a
  arrives-contained a arrives = Contains-from_any eqb-true a last (arrives-met a arrives)

  -- and nothing else

  roots-arrive : All (IsReachable s roots) first
  roots-arrive = subst (All (IsReachable s roots)) (sym from_roots.is) (All-append (IsReachable s roots) [] from_roots.more (All-nil (IsReachable s roots))
      (All-weaker (λ x. (i : ℕ) × (i < length roots) × (slice_index roots i ≡ x) × (x ≢ 0)) (IsReachable s roots) (λ x h. let some : x ≢ 0 = h.3 in from_root h.0 h.2 (omega arith)) from_roots.more from_roots.only))

  globals-arrive : All (IsReachable s roots) second
  globals-arrive = subst (All (IsReachable s roots)) (sym from_globals.is) (All-append (IsReachable s roots) first from_globals.more roots-arrive
      (All-weaker (λ x. (g : ℕ) × (g < 16) × (global_at s g ≡ x) × (x ≢ 0)) (IsReachable s roots) (λ x h. let some : x ≢ 0 = h.3 in from_global h.0 h.1 h.2 (omega arith)) from_globals.more from_globals.only))

  pub contained-arrives : (a : ℕ) → Contains last a → IsReachable s roots a
  contained-arrives a there = All-contains (IsReachable s roots) last a (closes.reached roots globals-arrive) there

-- in order of names

-- two places of the list belong to two objects, so their names differ
names-differ : (s : HeapState) → IsWellFormed s → (places : List Place) → All (IsHeld s) (addresses_of places) → All (IsPlaceOfObject s) places → IsDistinct nat_eq (addresses_of places)
    → AllPairs (λ p q. p.name ≢ q.name) places
names-differ s order places held each apart i j d less inside =
    let before : i < length places = omega arith in
    let far : j < length (addresses_of places) = simp length-map inside in
    let near : i < length (addresses_of places) = simp length-map before in
    let p : Place = slice_index_or places i d in
    let q : Place = slice_index_or places j d in
    let p_at : slice_index_or (addresses_of places) i 0 ≡ p.at = get_or-map (λ x. x.at) places i d 0 before in
    let q_at : slice_index_or (addresses_of places) j 0 ≡ q.at = get_or-map (λ x. x.at) places j d 0 inside in
    let p_held : IsHeld s p.at = subst (IsHeld s) p_at (held i 0 near) in
    let q_held : IsHeld s q.at = subst (IsHeld s) q_at (held j 0 far) in
    λ same.
    let names : name_at s p.at ≡ name_at s q.at = sym (each i d before).name ∙ same ∙ (each j d inside).name in
    AllPairs-from_IsDistinct Decides-eqb (addresses_of places) apart i j 0 less far (p_at ∙ order.objects.names p.at q.at p_held q_held names ∙ sym q_at)

pub are-reached : (s : HeapState) → (roots first second found : List ℕ)
    → Adds (λ i. slice_index roots i) (length roots) [] first → Adds (global_at s) 16 first second → ClosesFields s (length found) second found
    → All (IsHeld s) found → IsDistinct nat_eq found
    → AreReached s roots found
are-reached s roots first second found from_roots from_globals closes held apart = record {
  reached = λ a. (
    arrives-contained s roots first second found from_roots from_globals closes a,
    contained-arrives s roots first second found from_roots from_globals closes a,
  );
  held = held;
  apart = apart;
}

pub is-graph : (s : HeapState) → IsWellFormed s → (roots : List ℕ) (found places : List Place) → AreReached s roots (addresses_of found) → All (IsPlaceOfObject s) found
    → IsPermutation found places → IsSortedByKey (λ p. p.name) compare places
    → IsGraphOf s roots places
is-graph s order roots found places all each moved sorted =
    let moved_addresses : IsPermutation (addresses_of found) (addresses_of places) = IsPermutation-map (λ p. p.at) found places moved in
    let placed : All (IsPlaceOfObject s) places = All-permutation (IsPlaceOfObject s) found places moved each in
    let differ : AllPairs (λ p q. p.name ≢ q.name) places = names-differ s order places (All-permutation (IsHeld s) _ _ moved_addresses all.held) placed
    (IsDistinct-IsPermutation nat_eq nat_eq_equiv.symm _ _ moved_addresses all.apart) in
    record {
      reached = λ a. (
        λ arrives. Contains-permutation _ _ a moved_addresses ((all.reached a).0 arrives),
        λ there. (all.reached a).1 (Contains-permutation _ _ a (IsPermutation-sym _ _ moved_addresses) there),
      );
      each = placed;
      rise = λ i j d less inside. rise (λ p. p.name) places sorted i j d less inside (differ i j d less inside);
    }
