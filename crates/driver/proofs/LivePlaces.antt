-- The places of the objects that are reachable from registers and globals.
use Rattle.std.proofs.Common.{◌≡◌, refl, sym, ◌∙◌, ap, subst, ℕ, ◌+◌, ◌<◌, inl, inr, arith, List, [], ◌∷◌, ◌++◌, length, slice_index, slice_index_or, IsTrue}
use Rattle.std.specs.List.{All, Contains, flat_map}
use Rattle.std.proofs.lemmas.List.{get_or_past, get_or-map, length-map}
use Rattle.std.proofs.lemmas.Bool.{cases_lt}
use Rattle.heap_layout.specs.Zones.{IsAddress}
use Rattle.ideal_heap.specs.declared.name.Name.{Name}
use Rattle.ideal_heap.specs.Names.{IsBefore, name}
use Rattle.object_model.specs.Objects.{HeapState, IsHeld, name_at, is_reference}
use Rattle.object_model.specs.declared.heap.Heap.{Heap}
use Rattle.object_model.specs.Heaps.{heap_state}
use Rattle.object_model.specs.Lawful.{IsLawful, IsRoot, AreRoots}
use Rattle.object_model.specs.Graphs as graphs
use Rattle.object_model.specs.Graphs.{IsReachable, roots_of}
use Rattle.heap_graph.specs.declared.place.Place.{Place}
use Rattle.heap_graph.specs.Places.{IsPlaceOfObject, IsGraphOf, addresses_of}
use Rattle.sessions.specs.Sessions.{Moment}
use Rattle.driver.specs.Texts.{AreLive, place_line, map_line}
use Rattle.driver.specs.Reports.{place_in}

abbrev pub no_place : Place
no_place = record { name = name 0 0; at = 0; size = 0 }

-- the line of a place is that of the object there
pub place-is : (s : HeapState) (p : Place) → IsPlaceOfObject s p → place_line (place_in s.blocks p) ≡ map_line s p.at
place-is s p is =
    ap (λ n. place_line (place_in s.blocks (record { name = n; at = p.at; size = p.size }))) is.name
    ∙ ap (λ n. place_line (place_in s.blocks (record { name = name_at s p.at; at = p.at; size = n }))) is.size

pub lines-of-places : (s : HeapState) (places : List Place) → flat_map (λ p. map_line s p.at) places ≡ flat_map (map_line s) (addresses_of places)
lines-of-places s [] = refl
lines-of-places s (p ∷ places) = ap (λ l. map_line s p.at ++ l) (lines-of-places s places)

-- the roots of a heap, by another name for heap and list
pub roots-there : (a b : Heap) (xs ys : List ℕ) → a ≡ b → xs ≡ ys → AreRoots (heap_state b) ys → AreRoots (heap_state a) xs
roots-there a b xs ys heap list roots =
    subst (λ (h : Heap). AreRoots (heap_state h) xs) (sym heap) (subst (λ (l : List ℕ). AreRoots (heap_state b) l) (sym list) roots)

module _ (s : HeapState) (lawful : IsLawful s) (roots : List ℕ) (all : AreRoots s roots) where
  root-at : (i : ℕ) → IsRoot s (slice_index roots i)
  root-at i some = elim (cases_lt i (length roots)) as (λ _. IsHeld s (slice_index roots i)) [
    | inl low ↦ all i low some
    | inr past ↦ absurd (some (get_or_past roots i 0 past))
  ]

  reached-held : (a : ℕ) → IsReachable s roots a → IsHeld s a
  reached-held a (graphs.from_root i e some) = subst (IsHeld s) e (root-at i (λ nil. let same : a ≡ 0 = sym e ∙ nil in omega arith))
  reached-held a (graphs.from_global g small e some) =
      subst (IsHeld s) e (lawful.but_lines.order.objects.globals g small (λ nil. let same : a ≡ 0 = sym e ∙ nil in omega arith))
  reached-held a (graphs.from_field x i before within e some) =
      subst (IsHeld s) e (lawful.but_lines.order.objects.references x i (reached-held x before) within (subst (λ (v : ℕ). IsTrue (is_reference v)) (sym e) some))

  module _ (places : List Place) (graph : IsGraphOf s roots places) where
    -- the address of the place with an index
    at-is : (k d : ℕ) → k < length places → slice_index_or (addresses_of places) k d ≡ (slice_index_or places k no_place).at
    at-is k d low = get_or-map (λ p. p.at) places k no_place d low

    within : (k : ℕ) → k < length (addresses_of places) → k < length places
    within k low = let many = length-map places (λ p. p.at) in omega (arith, many, low)

    back : (k : ℕ) → k < length places → k < length (addresses_of places)
    back k low = let many = length-map places (λ p. p.at) in omega (arith, many, low)

    pub places-held : All (λ p. IsHeld s p.at) places
    places-held k d low =
        let a : ℕ = (slice_index_or places k d).at in
        reached-held a ((graph.reached a).1 (k, back k low, get_or-map (λ p. p.at) places k d a low))

    pub places-addresses : All (λ p. IsAddress s.blocks p.at) places
    places-addresses k d low = (places-held k d low).address

    names-rise : (i j d : ℕ) → i < j → j < length places → IsBefore (name_at s (slice_index_or (addresses_of places) i d)) (name_at s (slice_index_or (addresses_of places) j d))
    names-rise i j d less low =
        let first : i < length places = omega (arith, less, low) in
        let p : name_at s (slice_index_or (addresses_of places) i d) ≡ (slice_index_or places i no_place).name =
        ap (name_at s) (at-is i d first) ∙ sym (graph.each i no_place first).name in
        let q : name_at s (slice_index_or (addresses_of places) j d) ≡ (slice_index_or places j no_place).name =
        ap (name_at s) (at-is j d low) ∙ sym (graph.each j no_place low).name in
        subst (λ (n : Name). IsBefore n (name_at s (slice_index_or (addresses_of places) j d))) (sym p)
        (subst (λ (n : Name). IsBefore (slice_index_or places i no_place).name n) (sym q) (graph.rise i j no_place less low))

    pub are-live : (last : Moment) → s ≡ last.heap → roots ≡ roots_of last.mutators → AreLive last (addresses_of places)
    are-live last is of = record {
      all = λ a. (
        λ arrives.
            let there = (graph.reached a).0 (subst (λ (l : List ℕ). IsReachable s l a) (sym of) (subst (λ (h : HeapState). IsReachable h (roots_of last.mutators) a) (sym is) arrives)) in
            (there.0, a, there.1, there.2, refl),
        λ there.
            let found : Contains (addresses_of places) a = subst (Contains (addresses_of places)) there.4 (there.0, there.2, there.3) in
            subst (λ (h : HeapState). IsReachable h (roots_of last.mutators) a) is (subst (λ (l : List ℕ). IsReachable s l a) of ((graph.reached a).1 found)),
      );
      rise = λ i j less low. subst (λ (h : HeapState). IsBefore (name_at h (slice_index (addresses_of places) i)) (name_at h (slice_index (addresses_of places) j))) is
          (names-rise i j 0 less (within j low));
    }
