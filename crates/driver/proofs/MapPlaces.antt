-- The places of a map: what they say of a sound moment.
use Rattle.std.proofs.Common.{◌≡◌, refl, sym, ap, subst, ℕ, zero, suc, ◌+◌, ◌*◌, ◌<◌, ◌≤◌, arith, List, [], ◌∷◌, ◌++◌, map, length, slice_index, slice_index_or}
use Rattle.std.specs.List.{All, AllByRecursion, AllPairs, Any, flat_map}
use Rattle.std.proofs.lemmas.List.{get_or-map, length-map}
use Rattle.std.proofs.lemmas.List.Elements.{All-from_recursion}
use Rattle.heap_layout.specs.Zones.{row_words, heap_of, block_at, offset_at}
use Rattle.ideal_heap.specs.Ideal.{record_of}
use Rattle.object_model.specs.Objects.{HeapState, IsHeld, IsInExtent, name_at, size_at}
use Rattle.object_model.specs.Lawful.{IsWellFormed, Lies}
use Rattle.object_model.proofs.ObjectReads.{place_of_address, ends_in_row}
use Rattle.object_model.proofs.Representation.{models}
use Rattle.sessions.specs.Sessions.{Setting, Moment, IsSound, ideal_at}
use Rattle.driver.specs.Texts.{AreLive, MapPlace, place_of, place_line, map_line, map_part}
use Rattle.driver.specs.LiveNames.{AreLiveNames, record_size}
use Rattle.driver.specs.MapPlaces.{HasWord, AreDisjoint, LiesInBlocks, IsMapOf}
use Rattle.driver.proofs.LiveNames.{all-of, live-size, live-names, not-before-itself}

-- the lines of places
lines-of : (s : HeapState) (live : List ℕ) → flat_map (map_line s) live ≡ flat_map place_line (map (place_of s) live)
lines-of s [] = refl
lines-of s (a ∷ live) = ap (λ l. map_line s a ++ l) (lines-of s live)

pub map-lines : (last : Moment) (live : List ℕ) → map_part last live ≡ flat_map place_line (map (place_of last.heap) live)
map-lines last live = lines-of last.heap live

names-of : (s : HeapState) (live : List ℕ) → map (λ (p : MapPlace). p.name) (map (place_of s) live) ≡ map (name_at s) live
names-of s [] = refl
names-of s (a ∷ live) = ap (λ l. name_at s a ∷ l) (names-of s live)

-- what holds of the places of all elements of a list
all-places : (P : MapPlace → Type 0) (s : HeapState) (live : List ℕ) → AllByRecursion (λ a. P (place_of s a)) live → AllByRecursion P (map (place_of s) live)
all-places P s [] each = tt
all-places P s (a ∷ live) each = (each.0, all-places P s live each.1)

module _ (s : HeapState) (order : IsWellFormed s) where
  -- a word of the place, counted in the heap, is one of the object, counted in the row
  in-extent : (a i : ℕ) → IsHeld s a → HasWord (place_of s a) i → IsInExtent s a (heap_of s.blocks + i)
  in-extent a i held has =
      let place = place_of_address s.blocks a held.address in
      let from : 4096 * block_at s.blocks a + offset_at s.blocks a ≤ i = has.from in
      let below : i < 4096 * block_at s.blocks a + offset_at s.blocks a + size_at s a = has.below in
      record { from = omega (arith, place.2, from); below = omega (arith, place.2, below) }

  pub lies-in-blocks : (a : ℕ) → IsHeld s a → LiesInBlocks s.blocks (place_of s a)
  lies-in-blocks a held =
      let lies : Lies s a (size_at s a) = order.objects.lies a held in
      let ends : a + size_at s a ≤ row_words s.blocks = ends_in_row s order a held in
      record {
        inside = λ i has.
            let below : heap_of s.blocks + i < a + size_at s a = (in-extent a i held has).below in
            omega (arith, ends, below);
        medium = λ small. (lies.small small).within;
        large = λ large. (lies.large large).start;
      }

  pub apart-places : (a x : ℕ) → IsHeld s a → IsHeld s x → (a ≡ x → ⊥) → AreDisjoint (place_of s a) (place_of s x)
  apart-places a x held other differ i one two =
      differ (order.objects.apart a x (heap_of s.blocks + i) held other (in-extent a i held one) (in-extent x i other two))

module _ (t : Setting) (now : Moment) (live : List ℕ) (sound : IsSound t now) (are : AreLive now live) where
  abbrev places : List MapPlace
  places = map (place_of now.heap) live

  order : IsWellFormed now.heap
  order = sound.lawful.but_lines.order

  live-held : (a : ℕ) → Any (λ x. x ≡ a) live → IsHeld now.heap a
  live-held a there = (models now.heap now.mutators (ideal_at now) order sound.represents).mirrors.held a ((are.all a).1 there)

  pub all-inside : All (LiesInBlocks now.heap.blocks) places
  all-inside = All-from_recursion (LiesInBlocks now.heap.blocks) places
      (all-places (LiesInBlocks now.heap.blocks) now.heap live (all-of (λ a. LiesInBlocks now.heap.blocks (place_of now.heap a)) live (λ a there. lies-in-blocks now.heap order a (live-held a there))))

  abbrev HasRecordSize : MapPlace → Type 0
  HasRecordSize p = p.size ≡ record_size (record_of (ideal_at now) p.name)

  pub all-sizes : All HasRecordSize places
  all-sizes = All-from_recursion HasRecordSize places
      (all-places HasRecordSize now.heap live (all-of (λ a. HasRecordSize (place_of now.heap a)) live (live-size t now live sound are)))

  at-index : (i : ℕ) → i < length live → Any (λ x. x ≡ slice_index live i) live
  at-index i low = (i, slice_index live i, low, get_or-same live i (slice_index live i) low, refl)
    where
      get_or-same : (xs : List ℕ) (k d : ℕ) → k < length xs → slice_index_or xs k d ≡ slice_index xs k
      get_or-same [] k d within = absurd (omega (arith, within))
      get_or-same (x ∷ xs) zero d within = refl
      get_or-same (x ∷ xs) (suc k) d within = get_or-same xs k d (omega (arith, within))

  pub all-apart : AllPairs AreDisjoint places
  all-apart i j d less low =
      let within : j < length live = subst (λ (k : ℕ). j < k) (length-map live (place_of now.heap)) low in
      let before : i < length live = omega (arith, less, within) in
      let a = slice_index live i in
      let x = slice_index live j in
      let differ : a ≡ x → ⊥ = λ same. not-before-itself (name_at now.heap a) (name_at now.heap x) (ap (name_at now.heap) same) (are.rise i j less within) in
      let apart : AreDisjoint (place_of now.heap a) (place_of now.heap x) = apart-places now.heap order a x (live-held a (at-index i before)) (live-held x (at-index j within)) differ in
      let at_i : slice_index_or places i d ≡ place_of now.heap a = get_or-map (place_of now.heap) live i 0 d before in
      let at_j : slice_index_or places j d ≡ place_of now.heap x = get_or-map (place_of now.heap) live j 0 d within in
      subst (λ p. AreDisjoint p (slice_index_or places j d)) (sym at_i) (subst (λ q. AreDisjoint (place_of now.heap a) q) (sym at_j) apart)

  pub map-of : IsMapOf (ideal_at now) now.heap.blocks places
  map-of = record {
    names = subst (AreLiveNames (ideal_at now)) (sym (names-of now.heap live)) (live-names t now live sound are);
    sizes = all-sizes;
    inside = all-inside;
    apart = all-apart;
  }
