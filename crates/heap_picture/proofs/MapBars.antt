-- No two bars of a map overlap.
use Rattle.std.proofs.Common.{◌≡◌, sym, subst, ap, ℕ, ◌+◌, ◌*◌, ◌/◌, ◌<◌, ◌≤◌, arith, inl, inr, List, length, map, nat_le}
use Rattle.std.specs.Prelude.{slice_index_or, if◌then◌else◌}
use Rattle.std.specs.List.{All, AllPairs}
use Rattle.std.proofs.lemmas.Bool.{cases_Bool}
use Rattle.std.proofs.lemmas.List.{get_or-map, length-map}
use Rattle.ideal_heap.specs.Ideal.{IdealHeap}
use Rattle.driver.specs.MapPlaces.{AreDisjoint, HasWord, IsMapOf}
use Rattle.heap_picture.specs.declared.forms.Place.{Place}
use Rattle.heap_picture.specs.Bars.{AreApart, map_place, room_of, word_shown}
use Rattle.heap_picture.specs.Marks.{room_words}
use Rattle.heap_picture.specs.Texts.{IsPlaceIn}
use Rattle.heap_picture.proofs.BarWords.{bar_has_words}
use Rattle.heap_picture.proofs.Taken.{Apart}

one-of : (k b : ℕ) (ps : List Place) (i : ℕ) (d : Place) → All (IsPlaceIn k b) ps → i < length ps → IsPlaceIn k b (slice_index_or ps i d)
one-of k b ps i d each low = each i d low

abbrev WordsApart : Place → Place → Type 0
WordsApart p q = AreDisjoint (map_place p) (map_place q)

place-bars : (k b : ℕ) (ps : List Place) → AllPairs WordsApart ps → All (IsPlaceIn k b) ps → AllPairs AreApart ps
place-bars k b ps apart each i j d less low x y one two =
    let first = one-of k b ps i d each (omega (arith, less, low)) in
    let second = one-of k b ps j d each low in
    apart i j d less low (word_shown x y) (bar_has_words (slice_index_or ps i d) x y first.short first.lies.medium first.lies.large one).1
    (bar_has_words (slice_index_or ps j d) x y second.short second.lies.medium second.lies.large two).1

places-apart : (ps : List Place) → AllPairs AreDisjoint (map map_place ps) → AllPairs WordsApart ps
places-apart ps apart i j d less low =
    let these : AreDisjoint (slice_index_or (map map_place ps) i (map_place d)) (slice_index_or (map map_place ps) j (map_place d)) =
    apart i j (map_place d) less (subst (λ (n : ℕ). j < n) (sym (length-map ps map_place)) low) in
    subst (λ p. AreDisjoint p (map_place (slice_index_or ps j d))) (get_or-map map_place ps i d (map_place d) (omega (arith, less, low)))
    (subst (λ q. AreDisjoint (slice_index_or (map map_place ps) i (map_place d)) q) (get_or-map map_place ps j d (map_place d) low) these)

pub map-bars : (h : IdealHeap) (k b : ℕ) (ps : List Place) → IsMapOf h b (map map_place ps) → All (IsPlaceIn k b) ps → AllPairs AreApart ps
map-bars h k b ps is each = place-bars k b ps (places-apart ps is.apart) each

-- a place has its own words for itself
at-least : (n : ℕ) → n ≤ room_words n
at-least n = elim (cases_Bool (nat_le n 2048)) as (λ _. n ≤ room_words n) [
  | inl is ↦ (let all : room_words n ≡ n = ap (λ b. if b then n else 4096 * ((n + 4095) / 4096)) is in omega (arith, all))
  | inr off ↦ (let all : room_words n ≡ 4096 * ((n + 4095) / 4096) = ap (λ b. if b then n else 4096 * ((n + 4095) / 4096)) off in omega (arith, all))
]

in-room : (p : Place) (i : ℕ) → HasWord (map_place p) i → HasWord (room_of p) i
in-room p i h = let below : i < 4096 * p.block + p.word + p.size = h.below in let most = at-least p.size in record { from = h.from; below = omega (arith, below, most) }

pub room-bars : (k b : ℕ) (ps : List Place) → AllPairs Apart ps → All (IsPlaceIn k b) ps → AllPairs AreApart ps
room-bars k b ps apart each = place-bars k b ps (λ i j d less low w one two. apart i j d less low w (in-room (slice_index_or ps i d) w one) (in-room (slice_index_or ps j d) w two)) each
