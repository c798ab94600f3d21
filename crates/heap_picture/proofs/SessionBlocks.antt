-- The live small and medium objects lie in blocks that are neither free nor large, and no two live objects have words for themselves in common.
use Rattle.std.proofs.Common.{◌≡◌, refl, sym, ◌∙◌, ap, ℕ, zero, suc, ◌+◌, ◌-◌, ◌<◌, ◌≤◌, arith, inl, inr, Bool, true, false, ◌||◌, nat_le, nat_lt, List, [], ◌∷◌, subst, ◌*◌, ◌/◌, ◌&&◌, length, map}
use Rattle.std.specs.Prelude.{if◌then◌else◌, slice_index_or}
use Rattle.std.specs.List.{AllByRecursion, AllPairs}
use Rattle.std.proofs.lemmas.Bool.{and_parts, cases_Bool, leb-true, ltb-true, or_cases, true≢false, and_from, le-leb, leb-false, lt-ltb}
use Rattle.heap_layout.specs.Zones.{block_at, offset_at}
use Rattle.heap_layout.specs.declared.block.Kind.TheVariants as kinds
use Rattle.object_model.specs.Counting.{kind_count}
use Rattle.object_model.specs.Lawful.{IsWellFormed, has_small, LiesInBlock, LiesInRun}
use Rattle.object_model.specs.Objects.{HeapState, IsHeld, has_kind, size_at}
use Rattle.object_model.specs.Times.{one_if}
use Rattle.object_model.proofs.HeldCounts.{below, below-more}
use Rattle.object_model.proofs.OneKind.{has_small-code, has_small-free, one-kind}
use Rattle.sessions.specs.Fitting.{large_of}
use Rattle.std.proofs.lemmas.List.{get_or-map, length-map}
use Rattle.driver.specs.MapPlaces.{AreDisjoint, HasWord}
use Rattle.heap_picture.specs.declared.forms.Place.{Place}
use Rattle.heap_picture.specs.Bars.{room_of}
use Rattle.session_counts.specs.Sizes.{own_blocks}
use Rattle.session_counts.proofs.LargeBlocks.{large-at, one-owner}
use Rattle.heap_picture.proofs.Taken.{Apart}
use Rattle.heap_picture.specs.Marks.{has_block, is_used, room_words}
use Rattle.session_counts.specs.Sizes.{shared_blocks}
use Rattle.heap_picture.specs.Sessions.{place_seen, places_of}
use Rattle.heap_picture.specs.Texts.{small_blocks}
use Rattle.driver.specs.Texts.{place_of, MapPlace}

module _ (s : HeapState) (order : IsWellFormed s) where
  abbrev large : ℕ → Bool
  large k = has_kind s k kinds.LargeHead || has_kind s k kinds.LargeTail

  abbrev free : ℕ → Bool
  free k = has_kind s k kinds.Free

  abbrev used : List ℕ → ℕ → Bool
  used live k = is_used (places_of s live) k

  small-at : (a k : ℕ) → IsHeld s a → has_block k (place_seen (place_of s a)) ≡ true → has_small s k ≡ true
  small-at a k held has =
      let both = and_parts (nat_le (block_at s.blocks a) k) (nat_lt k (block_at s.blocks a + shared_blocks (size_at s a))) has in
      let from : block_at s.blocks a ≤ k = leb-true (block_at s.blocks a) k both.0 in
      let low : k < block_at s.blocks a + shared_blocks (size_at s a) = ltb-true k (block_at s.blocks a + shared_blocks (size_at s a)) both.1 in
      elim (cases_Bool (nat_le (size_at s a) 2048)) as (λ _. has_small s k ≡ true) [
        | inl small ↦ (
            let one : shared_blocks (size_at s a) ≡ 1 = ap (λ b. if b then 1 else 0) small in
            let same : block_at s.blocks a ≡ k = omega (arith, from, low, one) in
            ap (has_small s) (sym same) ∙ ((order.objects.lies a held).small (leb-true (size_at s a) 2048 small)).kind)
        | inr not ↦ absurd (let none : shared_blocks (size_at s a) ≡ 0 = ap (λ b. if b then 1 else 0) not in omega (arith, from, low, none))
      ]

  used-small : (live : List ℕ) (k : ℕ) → AllByRecursion (IsHeld s) live → used live k ≡ true → has_small s k ≡ true
  used-small [] k each is = absurd (let wrong : false ≡ true = is in cc)
  used-small (a ∷ live) k each is = elim (or_cases (has_block k (place_seen (place_of s a))) (used live k) is) as (λ _. has_small s k ≡ true) [
    | inl here ↦ small-at a k each.0 here
    | inr later ↦ used-small live k each.1 later
  ]

  -- a block of one kind is of no other
  not-used : (live : List ℕ) (k : ℕ) → AllByRecursion (IsHeld s) live → has_small s k ≡ false → used live k ≡ false
  not-used live k each none = elim (cases_Bool (used live k)) as (λ _. used live k ≡ false) [
    | inl is ↦ absurd (true≢false (sym (used-small live k each is) ∙ none))
    | inr off ↦ off
  ]

  not-large : (k : ℕ) → free k ≡ true → large k ≡ false
  not-large k is = elim (cases_Bool (large k)) as (λ _. large k ≡ false) [
    | inr off ↦ off
    | inl big ↦ elim (or_cases (has_kind s k kinds.LargeHead) (has_kind s k kinds.LargeTail) big) as (λ _. large k ≡ false) [
      | inl head ↦ absurd (let wrong : 0 ≡ 6 = one-kind s k kinds.Free kinds.LargeHead is head in omega (arith, wrong))
      | inr tail ↦ absurd (let wrong : 0 ≡ 7 = one-kind s k kinds.Free kinds.LargeTail is tail in omega (arith, wrong))
    ]
  ]

  large-unused : (k : ℕ) → large k ≡ true → has_small s k ≡ false
  large-unused k is = elim (or_cases (has_kind s k kinds.LargeHead) (has_kind s k kinds.LargeTail) is) as (λ _. has_small s k ≡ false) [
    | inl head ↦ has_small-code s k kinds.LargeHead head
    | inr tail ↦ has_small-code s k kinds.LargeTail tail
  ]

  one-at-most : (b : Bool) → one_if b ≤ 1
  one-at-most true = omega arith
  one-at-most false = omega arith

  each-block : (live : List ℕ) (k : ℕ) → AllByRecursion (IsHeld s) live → one_if (used live k) + one_if (free k) + one_if (large k) ≤ 1
  each-block live k each = elim (cases_Bool (free k)) as (λ _. one_if (used live k) + one_if (free k) + one_if (large k) ≤ 1) [
    | inl is ↦ (
        let a : one_if (used live k) ≡ 0 = ap one_if (not-used live k each (has_small-free s k is)) in
        let b : one_if (free k) ≡ 1 = ap one_if is in
        let c : one_if (large k) ≡ 0 = ap one_if (not-large k is) in
        omega (arith, a, b, c))
    | inr not ↦ elim (cases_Bool (large k)) as (λ _. one_if (used live k) + one_if (free k) + one_if (large k) ≤ 1) [
      | inl is ↦ (
          let a : one_if (used live k) ≡ 0 = ap one_if (not-used live k each (large-unused k is)) in
          let b : one_if (free k) ≡ 0 = ap one_if not in
          let c : one_if (large k) ≡ 1 = ap one_if is in
          omega (arith, a, b, c))
      | inr off ↦ (
          let a : one_if (used live k) ≤ 1 = one-at-most (used live k) in
          let b : one_if (free k) ≡ 0 = ap one_if not in
          let c : one_if (large k) ≡ 0 = ap one_if off in
          omega (arith, a, b, c))
    ]
  ]

  all-blocks : (live : List ℕ) (n : ℕ) → AllByRecursion (IsHeld s) live → below (λ k. one_if (used live k)) n + below (λ k. one_if (free k)) n + below (λ k. one_if (large k)) n ≤ n
  all-blocks live zero each = omega arith
  all-blocks live (suc n) each =
      let one : n + 1 ≡ suc n = omega arith in
      let a : below (λ k. one_if (used live k)) (suc n) ≡ below (λ k. one_if (used live k)) n + one_if (used live n) = ap (below (λ k. one_if (used live k))) (sym one) ∙ below-more (λ k. one_if (used live k)) n in
      let b : below (λ k. one_if (free k)) (suc n) ≡ below (λ k. one_if (free k)) n + one_if (free n) = ap (below (λ k. one_if (free k))) (sym one) ∙ below-more (λ k. one_if (free k)) n in
      let c : below (λ k. one_if (large k)) (suc n) ≡ below (λ k. one_if (large k)) n + one_if (large n) = ap (below (λ k. one_if (large k))) (sym one) ∙ below-more (λ k. one_if (large k)) n in
      let rest = all-blocks live n each in
      let here = each-block live n each in
      omega (arith, a, b, c, rest, here)

  pub small-fit : (live : List ℕ) → AllByRecursion (IsHeld s) live → small_blocks s.blocks (places_of s live) ≤ s.blocks - kind_count s kinds.Free - large_of s
  small-fit live each =
      let all : below (λ k. one_if (used live k)) s.blocks + below (λ k. one_if (free k)) s.blocks + below (λ k. one_if (large k)) s.blocks ≤ s.blocks = all-blocks live s.blocks each in
      let a : small_blocks s.blocks (places_of s live) ≡ below (λ k. one_if (used live k)) s.blocks = refl in
      let b : below (λ k. one_if (free k)) s.blocks ≡ kind_count s kinds.Free = refl in
      let c : below (λ k. one_if (large k)) s.blocks ≡ large_of s = refl in
      omega (arith, all, a, b, c)

  abbrev seen : ℕ → Place
  seen a = place_seen (place_of s a)

  abbrev size : ℕ → ℕ
  size a = size_at s a

  abbrev block : ℕ → ℕ
  block a = block_at s.blocks a

  small-room : (n : ℕ) → nat_le n 2048 ≡ true → room_words n ≡ n
  small-room n is = ap (λ b. if b then n else 4096 * ((n + 4095) / 4096)) is

  large-room : (n : ℕ) → nat_le n 2048 ≡ false → room_words n ≡ 4096 * own_blocks n
  large-room n is = ap (λ b. if b then n else 4096 * ((n + 4095) / 4096)) is ∙ ap (λ (k : ℕ). 4096 * k) (sym (ap (λ b. if b then 0 else (n + 4095) / 4096) is))

  -- a word of a large object's room lies in one of its blocks
  in-large : (a i : ℕ) → IsHeld s a → nat_le (size a) 2048 ≡ false → HasWord (room_of (seen a)) i → (nat_le (block a) (i / 4096) && nat_lt (i / 4096) (block a + own_blocks (size a))) ≡ true
  in-large a i held big word =
      let run : LiesInRun s a (size a) = (order.objects.lies a held).large (leb-false (size a) 2048 big) in
      let start : offset_at s.blocks a ≡ 0 = run.start in
      let room : room_words (size a) ≡ 4096 * own_blocks (size a) = large-room (size a) big in
      let from : 4096 * block a + offset_at s.blocks a ≤ i = word.from in
      let below : i < 4096 * block a + offset_at s.blocks a + room_words (size a) = word.below in
      and_from _ _ (le-leb (block a) (i / 4096) (omega (arith, start, from))) (lt-ltb (i / 4096) (block a + own_blocks (size a)) (omega (arith, start, room, below)))

  -- a word of another's lies in its block
  in-small : (a i : ℕ) → IsHeld s a → nat_le (size a) 2048 ≡ true → HasWord (room_of (seen a)) i → has_small s (i / 4096) ≡ true
  in-small a i held few word =
      let lies : LiesInBlock s a (size a) = (order.objects.lies a held).small (leb-true (size a) 2048 few) in
      let room : room_words (size a) ≡ size a = small-room (size a) few in
      let end : offset_at s.blocks a + size a ≤ 4096 = lies.within in
      let from : 4096 * block a + offset_at s.blocks a ≤ i = word.from in
      let below : i < 4096 * block a + offset_at s.blocks a + room_words (size a) = word.below in
      let same : block a ≡ i / 4096 = omega (arith, room, end, from, below) in
      subst (λ (k : ℕ). has_small s k ≡ true) same lies.kind

  large-apart : (a x i : ℕ) → IsHeld s a → IsHeld s x → (a ≡ x → ⊥) → nat_le (size a) 2048 ≡ false → HasWord (room_of (seen a)) i → HasWord (room_of (seen x)) i → ⊥
  large-apart a x i here there differ big one two = elim (cases_Bool (nat_le (size x) 2048)) as (λ _. ⊥) [
    | inl few ↦ true≢false (sym (in-small x i there few two) ∙ large-unused (i / 4096) (large-at s order a (i / 4096) here (in-large a i here big one)))
    | inr other ↦ differ (one-owner s order a x (i / 4096) here there (in-large a i here big one) (in-large x i there other two))
  ]

  own-word : (a i : ℕ) → nat_le (size a) 2048 ≡ true → HasWord (room_of (seen a)) i → HasWord (place_of s a) i
  own-word a i few word = record { from = word.from; below = subst (λ (n : ℕ). i < 4096 * block a + offset_at s.blocks a + n) (small-room (size a) few) word.below }

  rooms-apart : (a x : ℕ) → IsHeld s a → IsHeld s x → (a ≡ x → ⊥) → AreDisjoint (place_of s a) (place_of s x) → Apart (seen a) (seen x)
  rooms-apart a x here there differ words i one two = elim (cases_Bool (nat_le (size a) 2048)) as (λ _. ⊥) [
    | inr big ↦ large-apart a x i here there differ big one two
    | inl few ↦ elim (cases_Bool (nat_le (size x) 2048)) as (λ _. ⊥) [
      | inr big ↦ large-apart x a i there here (λ same. differ (sym same)) big two one
      | inl low ↦ words i (own-word a i few one) (own-word x i low two)
    ]
  ]

  pub live-rooms : (live : List ℕ) → ((i : ℕ) → i < length live → IsHeld s (slice_index_or live i 0)) → AllPairs (λ (x y : ℕ). x ≡ y → ⊥) live → AllPairs AreDisjoint (map (place_of s) live) → AllPairs Apart (places_of s live)
  live-rooms live held differ apart i j d less low =
      let few : j < length live = subst (λ (n : ℕ). j < n) (length-map live seen) low in
      let small : i < length live = omega (arith, less, few) in
      let p : MapPlace = place_of s 0 in
      let a : ℕ = slice_index_or live i 0 in
      let x : ℕ = slice_index_or live j 0 in
      let these : AreDisjoint (slice_index_or (map (place_of s) live) i p) (slice_index_or (map (place_of s) live) j p) = apart i j p less (subst (λ (n : ℕ). j < n) (sym (length-map live (place_of s))) few) in
      let words : AreDisjoint (place_of s a) (place_of s x) = subst (λ q. AreDisjoint (place_of s a) q) (get_or-map (place_of s) live j 0 p few) (subst (λ q. AreDisjoint q (slice_index_or (map (place_of s) live) j p)) (get_or-map (place_of s) live i 0 p small) these) in
      let rooms : Apart (seen a) (seen x) = rooms-apart a x (held i small) (held j few) (differ i j 0 less few) words in
      subst (λ q. Apart q (slice_index_or (map seen live) j d)) (sym (get_or-map seen live i 0 d small)) (subst (λ q. Apart (seen a) q) (sym (get_or-map seen live j 0 d few)) rooms)
