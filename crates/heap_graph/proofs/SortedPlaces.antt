-- Reached objects have an order of rising names.
use Rattle.std.proofs.Common.{add-one, ◌≡◌, refl, sym, subst, map, ap, inl, inr, ◌∙◌, ℕ, zero, suc, ◌+◌, ◌<◌, arith, Bool, true, false, List, [], ◌∷◌, length, slice_index_or}
use Rattle.std.specs.Prelude.{⊤}
use Rattle.std.specs.Ordering.{is_lt}
use Rattle.std.specs.Cmp.{IsTotalOrder}
use Rattle.std.specs.List.{All}
use Rattle.std.proofs.lemmas.List.Elements.{All-cons, All-nil}
use Rattle.std.specs.List.Sorted.{IsPermutation, IsSortedByKey}
use Rattle.std.proofs.lemmas.Bool.{cases_Bool}
use Rattle.std.proofs.lemmas.Cmp.{nat_cmp_total, on_total, then_total}
use Rattle.std.proofs.lemmas.List.Sorted.{IsPermutation-refl, IsPermutation-trans, IsPermutation-cons, IsPermutation-middle, IsPermutation-map, ranks_by}
use Rattle.ideal_heap.specs.declared.name.Name.{Name}
use Rattle.ideal_heap.proofs.NameLemmas.{compare}
use Rattle.heap_graph.specs.declared.place.Place.{Place}
use Rattle.object_model.specs.Objects.{HeapState, name_at, size_at}
use Rattle.object_model.specs.Lawful.{IsWellFormed}
use Rattle.heap_graph.specs.Places.{AreReached, IsGraphOf, IsPlaceOfObject, addresses_of}
use Rattle.heap_graph.proofs.GraphLemmas.{is-graph}

abbrev is_less : Place → Place → Bool
is_less p q = is_lt (compare p.name q.name)

-- the first of the places, if there is one, is not less than p
abbrev IsAfter : Place → List Place → Type 0
IsAfter p [] = ⊤
IsAfter p (q ∷ qs) = is_less q p ≡ false

-- none of the places is less than the one before
abbrev IsUp : List Place → Type 0
IsUp [] = ⊤
IsUp (p ∷ ps) = IsAfter p ps × IsUp ps

one-way : (p q : Place) → is_less p q ≡ true → is_less q p ≡ false
one-way p q less =
    let total : IsTotalOrder compare = then_total (on_total (λ (n : Name). n.mutator) nat_cmp_total) (on_total (λ (n : Name). n.birth) nat_cmp_total) in
    (ranks_by total (λ (r : Place). r.name)).one_way p q less

-- p among places in order
inserted : (p : Place) (xs : List Place) → IsUp xs
    → (ys : List Place) × IsPermutation (p ∷ xs) ys × IsUp ys × ((q : Place) → is_less p q ≡ false → IsAfter q xs → IsAfter q ys)
inserted p [] up = (p ∷ [], IsPermutation-refl (p ∷ []), (tt, tt), λ q not_less after. not_less)
inserted p (x ∷ xs) up =
    elim (cases_Bool (is_less x p)) as (λ _. (ys : List Place) × IsPermutation (p ∷ x ∷ xs) ys × IsUp ys × ((q : Place) → is_less p q ≡ false → IsAfter q (x ∷ xs) → IsAfter q ys)) [
      | inl less ↦
          let rest = inserted p xs up.1 in (
            x ∷ rest.0,
            IsPermutation-trans (p ∷ x ∷ xs) (x ∷ p ∷ xs) (x ∷ rest.0) (IsPermutation-middle (p ∷ []) x xs) (IsPermutation-cons x (p ∷ xs) rest.0 rest.1),
            (rest.3 x (one-way x p less) up.0, rest.2),
            λ q not_less after. after,
          )
      | inr not_less ↦ (p ∷ x ∷ xs, IsPermutation-refl (p ∷ x ∷ xs), (not_less, up), λ q before after. before)
    ]

in-order : (xs : List Place) → (ys : List Place) × IsPermutation xs ys × IsUp ys
in-order [] = ([], IsPermutation-refl [], tt)
in-order (x ∷ xs) =
    let rest = in-order xs in
    let all = inserted x rest.0 rest.2 in
    (all.0, IsPermutation-trans (x ∷ xs) (x ∷ rest.0) all.0 (IsPermutation-cons x xs rest.0 rest.1) all.1, all.2)

next-after : (ps : List Place) → IsUp ps → (k : ℕ) (d : Place) → suc k < length ps → is_less (slice_index_or ps (suc k) d) (slice_index_or ps k d) ≡ false
next-after [] up k d low = absurd (omega (arith, low))
next-after (p ∷ []) up k d low = absurd (omega (arith, low))
next-after (p ∷ q ∷ ps) up zero d low = up.0
next-after (p ∷ q ∷ ps) up (suc k) d low = next-after (q ∷ ps) up.1 k d (omega (arith, low))

sorted : (ps : List Place) → IsUp ps → IsSortedByKey (λ p. p.name) compare ps
sorted ps up k d from low =
    let next : k + 1 ≡ suc k = add-one k in
    ap (λ n. is_less (slice_index_or ps n d) (slice_index_or ps k d)) next ∙ next-after ps up k d (omega (arith, low, next))

abbrev place_of_object : HeapState → ℕ → Place
place_of_object s a = record { name = name_at s a; at = a; size = size_at s a }

addresses-there : (s : HeapState) (xs : List ℕ) → addresses_of (map (place_of_object s) xs) ≡ xs
addresses-there s [] = refl
addresses-there s (x ∷ xs) = ap (λ l. x ∷ l) (addresses-there s xs)

places-there : (s : HeapState) (xs : List ℕ) → All (IsPlaceOfObject s) (map (place_of_object s) xs)
places-there s [] = All-nil (IsPlaceOfObject s)
places-there s (x ∷ xs) = All-cons (IsPlaceOfObject s) (place_of_object s x) (map (place_of_object s) xs) (record { name = refl; size = refl }) (places-there s xs)

-- reached objects in rising order of names are the graph
pub graph-of-reached : (s : HeapState) → IsWellFormed s → (roots found : List ℕ) → AreReached s roots found
    → (places : List Place) × IsPermutation found (addresses_of places) × IsGraphOf s roots places
graph-of-reached s order roots found all =
    let places : List Place = map (place_of_object s) found in
    let up = in-order places in
    let same : addresses_of places ≡ found = addresses-there s found in (
      up.0,
      subst (λ l. IsPermutation l (addresses_of up.0)) same (IsPermutation-map (λ p. p.at) places up.0 up.1),
      is-graph s order roots places up.0 (subst (AreReached s roots) (sym same) all) (places-there s found) up.1 (sorted up.0 up.2),
    )
