-- The held objects that are not in a list: their sizes fill the blocks that those of the list leave.
use Rattle.std.proofs.Common.{◌≡◌, refl, sym, ◌∙◌, ap, subst, ℕ, suc, ◌+◌, ◌*◌, ◌/◌, ◌<◌, ◌≤◌, arith, inl, inr, Bool, true, false, ◌&&◌, ◌||◌, nat_eq, nat_le, List, [], ◌∷◌, length}
use Rattle.std.specs.Prelude.{if◌then◌else◌}
use Rattle.std.specs.List.{AllByRecursion, list_any, range_with_len, sum_by}
use Rattle.std.proofs.Math.Nat.{zero-mul, one-mul}
use Rattle.std.proofs.lemmas.Bool.{and_from, and_left, and_parts, and_right, cases_Bool, cases_lt, eq-eqb, le-leb, leb-false, leb-true, lt-ltb, true≢false}
use Rattle.std.proofs.lemmas.List.Sums.{sum_by-cons}
use Rattle.heap_layout.specs.Zones.{block_at, heap_of, offset_at, row_words}
use Rattle.heap_layout.specs.declared.block.Kind.TheVariants as kinds
use Rattle.object_model.specs.Counting.{count_words_at, held_in, kind_count}
use Rattle.object_model.specs.Lawful.{HasObject, IsWellFormed, LiesInBlock, LiesInRun}
use Rattle.object_model.specs.Objects.{HeapState, IsHeld, IsInExtent, has_kind, is_start, nums_at, refs_at, size_at, size_of}
use Rattle.object_model.specs.Times.{one_if}
use Rattle.object_model.proofs.HeldCounts.{below, below-none, held-count, held-words, words_at}
use Rattle.sessions.specs.Collecting.{IsEmptied}
use Rattle.sessions.specs.Fitting.{large_of}
use Rattle.session_counts.specs.HeapCounts.{Distinct, HasOtherSizes, lies_in_block, own_in, shared_in}
use Rattle.session_counts.specs.Sizes.{IsSize, own_blocks, shared_blocks}
use Rattle.session_counts.proofs.FilledBlocks.{IsFilled}
use Rattle.session_counts.proofs.LargeBlocks.{held-at, large-at, large-exact}
use Rattle.session_counts.proofs.Weights.{all-weights, at-least, below-same, below-sum, counted, exchanged, in-none, not-listed, once-or-none, weigh_list, weighed, weight_in}

size-bounds : (refs nums : ℕ) → refs ≤ 1024 → nums ≤ 60000 → IsSize (size_of refs nums)
size-bounds refs nums few low = record { least = omega arith; most = omega arith }

one-at-most : (b : Bool) → one_if b ≤ 1
one-at-most true = omega arith
one-at-most false = omega arith

pub size-in : (s : HeapState) → IsWellFormed s → (a : ℕ) → IsHeld s a → IsSize (size_at s a)
size-in s order a held = let object : HasObject s a = (order.objects.headers a held).object in size-bounds (refs_at s a) (nums_at s a) object.refs object.nums

module _ (s : HeapState) (order : IsWellFormed s) (xs : List ℕ) (each : AllByRecursion (IsHeld s) xs) (distinct : Distinct xs) where
  abbrev n : ℕ
  n = row_words s.blocks

  abbrev size : ℕ → ℕ
  size a = size_at s a

  -- a is held and not in the list
  abbrev other : ℕ → Bool
  other a = is_start s a && nat_eq (weight_in (λ _. 1) xs a) 0

  abbrev of-held : (ℕ → ℕ) → ℕ → ℕ
  of-held w a = if is_start s a then w a else 0

  abbrev of-other : (ℕ → ℕ) → ℕ → ℕ
  of-other w a = if other a then w a else 0

  here : (w : ℕ → ℕ) (a : ℕ) → of-held w a ≡ of-other w a + weight_in w xs a
  here w a = elim (once-or-none (IsHeld s) xs a each distinct) as (λ _. of-held w a ≡ of-other w a + weight_in w xs a) [
    | inr once ↦ (
        let start : is_start s a ≡ true = once.has.start in
        let not : other a ≡ false = and_right (is_start s a) (nat_eq (weight_in (λ _. 1) xs a) 0) (ap (λ m. nat_eq m 0) (once.weighs (λ _. 1))) in
        let held : of-held w a ≡ w a = ap (λ b. if b then w a else 0) start in
        let none : of-other w a ≡ 0 = ap (λ b. if b then w a else 0) not in
        let listed : weight_in w xs a ≡ w a = once.weighs w in
        omega (arith, held, none, listed))
    | inl none ↦ (
        let away : nat_eq (weight_in (λ _. 1) xs a) 0 ≡ true = eq-eqb (weight_in (λ _. 1) xs a) 0 (none (λ _. 1)) in
        let off : weight_in w xs a ≡ 0 = none w in
        elim (cases_Bool (is_start s a)) as (λ _. of-held w a ≡ of-other w a + weight_in w xs a) [
          | inl start ↦ (
              let held : of-held w a ≡ w a = ap (λ b. if b then w a else 0) start in
              let is : of-other w a ≡ w a = ap (λ b. if b then w a else 0) (and_from (is_start s a) _ start away) in
              omega (arith, held, is, off))
          | inr stop ↦ (
              let held : of-held w a ≡ 0 = ap (λ b. if b then w a else 0) stop in
              let is : of-other w a ≡ 0 = ap (λ b. if b then w a else 0) (and_left (is_start s a) _ stop) in
              omega (arith, held, is, off))
        ])
  ]

  in-row : (ys : List ℕ) → AllByRecursion (IsHeld s) ys → AllByRecursion (λ x. x < n) ys
  in-row [] all = tt
  in-row (x ∷ ys) all = (all.0.address.below, in-row ys all.1)

  split : (w : ℕ → ℕ) → below (of-held w) n ≡ below (of-other w) n + weigh_list w xs
  split w =
      let sum : below (of-held w) n ≡ below (λ a. of-other w a + weight_in w xs a) n = below-same (of-held w) (λ a. of-other w a + weight_in w xs a) n (here w) in
      let parts : below (λ a. of-other w a + weight_in w xs a) n ≡ below (of-other w) n + below (weight_in w xs) n = below-sum (of-other w) (weight_in w xs) n in
      let listed : below (weight_in w xs) n ≡ weigh_list w xs = all-weights w n xs (in-row xs each) in
      omega (arith, sum, parts, listed)

  -- the sizes of the others, by address
  sizes-at : List ℕ → List ℕ
  sizes-at [] = []
  sizes-at (a ∷ ys) = if other a then size a ∷ sizes-at ys else sizes-at ys

  summed : (f : ℕ → ℕ) (ys : List ℕ) → sum_by f (sizes-at ys) ≡ sum_by (of-other (λ a. f (size a))) ys
  unfolding sizes-at
  summed f [] = refl
  summed f (a ∷ ys) =
      let g : ℕ → ℕ = of-other (λ b. f (size b)) in
      let sum : sum_by (of-other (λ b. f (size b))) (a ∷ ys) ≡ of-other (λ b. f (size b)) a + sum_by (of-other (λ b. f (size b))) ys = sum_by-cons (of-other (λ b. f (size b))) a ys in
      let rest : sum_by f (sizes-at ys) ≡ sum_by (of-other (λ b. f (size b))) ys = summed f ys in
      elim (cases_Bool (other a)) as (λ _. sum_by f (sizes-at (a ∷ ys)) ≡ sum_by (of-other (λ b. f (size b))) (a ∷ ys)) [
        | inl is ↦ (
            let list : sum_by f (sizes-at (a ∷ ys)) ≡ f (size a) + sum_by f (sizes-at ys) = ap (λ b. sum_by f (if b then size a ∷ sizes-at ys else sizes-at ys)) is ∙ sum_by-cons f (size a) (sizes-at ys) in
            let own : of-other (λ b. f (size b)) a ≡ f (size a) = ap (λ b. if b then f (size a) else 0) is in
            omega (arith, sum, rest, list, own))
        | inr not ↦ (
            let list : sum_by f (sizes-at (a ∷ ys)) ≡ sum_by f (sizes-at ys) = ap (λ b. sum_by f (if b then size a ∷ sizes-at ys else sizes-at ys)) not in
            let own : of-other (λ b. f (size b)) a ≡ 0 = ap (λ b. if b then f (size a) else 0) not in
            omega (arith, sum, rest, list, own))
      ]

  numbered : (ys : List ℕ) → length (sizes-at ys) ≡ sum_by (of-other (λ _. 1)) ys
  unfolding sizes-at
  numbered [] = refl
  numbered (a ∷ ys) =
      let sum : sum_by (of-other (λ _. 1)) (a ∷ ys) ≡ of-other (λ _. 1) a + sum_by (of-other (λ _. 1)) ys = sum_by-cons (of-other (λ _. 1)) a ys in
      let rest : length (sizes-at ys) ≡ sum_by (of-other (λ _. 1)) ys = numbered ys in
      elim (cases_Bool (other a)) as (λ _. length (sizes-at (a ∷ ys)) ≡ sum_by (of-other (λ _. 1)) (a ∷ ys)) [
        | inl is ↦ (
            let list : length (sizes-at (a ∷ ys)) ≡ suc (length (sizes-at ys)) = ap (λ b. length (if b then size a ∷ sizes-at ys else sizes-at ys)) is in
            let own : of-other (λ _. 1) a ≡ 1 = ap (λ b. if b then 1 else 0) is in
            omega (arith, sum, rest, list, own))
        | inr not ↦ (
            let list : length (sizes-at (a ∷ ys)) ≡ length (sizes-at ys) = ap (λ b. length (if b then size a ∷ sizes-at ys else sizes-at ys)) not in
            let own : of-other (λ _. 1) a ≡ 0 = ap (λ b. if b then 1 else 0) not in
            omega (arith, sum, rest, list, own))
      ]

  each-size : (ys : List ℕ) → AllByRecursion IsSize (sizes-at ys)
  unfolding sizes-at
  each-size [] = tt
  each-size (a ∷ ys) = elim (cases_Bool (other a)) as (λ _. AllByRecursion IsSize (sizes-at (a ∷ ys))) [
    | inl is ↦ subst (λ b. AllByRecursion IsSize (if b then size a ∷ sizes-at ys else sizes-at ys)) (sym is) (size-in s order a (held-at s a (and_parts (is_start s a) _ is).0), each-size ys)
    | inr not ↦ subst (λ b. AllByRecursion IsSize (if b then size a ∷ sizes-at ys else sizes-at ys)) (sym not) (each-size ys)
  ]

  -- objects and words
  ones : (ys : List ℕ) → weigh_list (λ _. 1) ys ≡ length ys
  ones [] = refl
  ones (x ∷ ys) = let rest = ones ys in omega (arith, rest)

  words : (ys : List ℕ) → weigh_list (size_at s) ys ≡ count_words_at s ys
  words [] = refl
  words (x ∷ ys) = ap (λ m. size_at s x + m) (words ys)

  word-at : (a : ℕ) → words_at s a ≡ of-held size a
  word-at a = elim (cases_Bool (is_start s a)) as (λ _. words_at s a ≡ of-held size a) [
    | inl start ↦ ap (λ b. one_if b * size a) start ∙ one-mul (size a) ∙ sym (ap (λ b. if b then size a else 0) start)
    | inr stop ↦ ap (λ b. one_if b * size a) stop ∙ zero-mul (size a) ∙ sym (ap (λ b. if b then size a else 0) stop)
  ]

  abbrev free : ℕ → Bool
  free k = has_kind s k kinds.Free

  abbrev large : ℕ → Bool
  large k = has_kind s k kinds.LargeHead || has_kind s k kinds.LargeTail

  abbrev listed : ℕ → Bool
  listed k = list_any (lies_in_block s k) xs

  -- another small or medium object lies in block k
  abbrev others : ℕ → ℕ → Bool
  others a k = other a && lies_in_block s k a

  block-below : (a : ℕ) → IsHeld s a → block_at s.blocks a < s.blocks
  block-below a held =
      let from : heap_of s.blocks ≤ a = held.address.from in
      let less : a < row_words s.blocks = held.address.below in
      omega (arith, from, less)

  shared-most : (m : ℕ) → shared_blocks m ≤ 1
  shared-most m = one-at-most (nat_le m 2048)

  of-object : (a : ℕ) → below (λ k. one_if (others a k)) s.blocks ≡ of-other (λ b. shared_blocks (size b)) a
  of-object a = elim (cases_Bool (other a)) as (λ _. below (λ k. one_if (others a k)) s.blocks ≡ of-other (λ b. shared_blocks (size b)) a) [
    | inl is ↦ (
        let held : IsHeld s a = held-at s a (and_parts (is_start s a) _ is).0 in
        let low : block_at s.blocks a < s.blocks = block-below a held in
        let few : shared_blocks (size a) ≤ 1 = shared-most (size a) in
        ap (λ b. below (λ k. one_if (b && lies_in_block s k a)) s.blocks) is ∙ counted (block_at s.blocks a) (shared_blocks (size a)) s.blocks (omega (arith, low, few)) ∙ sym (ap (λ b. if b then shared_blocks (size a) else 0) is))
    | inr not ↦ ap (λ b. below (λ k. one_if (b && lies_in_block s k a)) s.blocks) not ∙ below-none (λ k. 0) s.blocks (λ k less. refl) ∙ sym (ap (λ b. if b then shared_blocks (size a) else 0) not)
  ]

  -- block k without an object of the list and without another one has no word of an object
  small-inside : (a i k : ℕ) → IsHeld s a → IsInExtent s a i → block_at s.blocks i ≡ k → nat_le (size a) 2048 ≡ true → lies_in_block s k a ≡ true
  small-inside a i k held in_extent at few =
      let lies : LiesInBlock s a (size a) = (order.objects.lies a held).small (leb-true (size a) 2048 few) in
      let end : offset_at s.blocks a + size a ≤ 4096 = lies.within in
      let high : heap_of s.blocks ≤ a = held.address.from in
      let from : a ≤ i = in_extent.from in
      let less : i < a + size a = in_extent.below in
      let one : shared_blocks (size a) ≡ 1 = ap (λ b. if b then 1 else 0) few in
      let same : block_at s.blocks a ≡ k = omega (arith, end, high, from, less, at) in
      and_from _ _ (le-leb (block_at s.blocks a) k (omega (arith, same))) (lt-ltb k (block_at s.blocks a + shared_blocks (size a)) (omega (arith, same, one)))

  large-inside : (a i k : ℕ) → IsHeld s a → IsInExtent s a i → block_at s.blocks i ≡ k → nat_le (size a) 2048 ≡ false → large k ≡ true
  large-inside a i k held in_extent at big =
      let run : LiesInRun s a (size a) = (order.objects.lies a held).large (leb-false (size a) 2048 big) in
      let start : offset_at s.blocks a ≡ 0 = run.start in
      let high : heap_of s.blocks ≤ a = held.address.from in
      let from : a ≤ i = in_extent.from in
      let less : i < a + size a = in_extent.below in
      let blocks : own_blocks (size a) ≡ (size a + 4095) / 4096 = ap (λ b. if b then 0 else (size a + 4095) / 4096) big in
      large-at s order a k held (and_from _ _ (le-leb (block_at s.blocks a) k (omega (arith, start, high, from, at))) (lt-ltb k (block_at s.blocks a + own_blocks (size a)) (omega (arith, start, high, less, at, blocks))))

  emptied : (k : ℕ) → large k ≡ false → listed k ≡ false → below (λ a. one_if (others a k)) n ≡ 0 → IsEmptied s k
  emptied k not none no-others a i held in_extent at = elim (cases_Bool (nat_le (size a) 2048)) as (λ _. ⊥) [
    | inr big ↦ true≢false (sym (large-inside a i k held in_extent at big) ∙ not)
    | inl few ↦ (
        let lies : lies_in_block s k a ≡ true = small-inside a i k held in_extent at few in
        let away : weight_in (λ _. 1) xs a ≡ 0 = not-listed (λ _. 1) (lies_in_block s k) a xs none lies in
        let is : others a k ≡ true = and_from (other a) _ (and_from (is_start s a) _ held.start (eq-eqb (weight_in (λ _. 1) xs a) 0 away)) lies in
        let one : one_if (others a k) ≡ 1 = ap one_if is in
        let no : one_if (others a k) ≡ 0 = in-none (λ b. one_if (others b k)) n a no-others held.address.below in
        omega (arith, one, no))
  ]

  module _ (filled : IsFilled s) where
    abbrev in-block : ℕ → ℕ
    in-block k = one_if (free k) + one_if (large k) + one_if (listed k) + below (λ a. one_if (others a k)) n

    some-in : (k : ℕ) → k < s.blocks → 1 ≤ in-block k
    some-in k low = elim (cases_Bool (free k)) as (λ _. 1 ≤ in-block k) [
      | inl is ↦ (let one : one_if (free k) ≡ 1 = ap one_if is in omega (arith, one))
      | inr used ↦ elim (cases_Bool (large k)) as (λ _. 1 ≤ in-block k) [
        | inl is ↦ (let one : one_if (large k) ≡ 1 = ap one_if is in omega (arith, one))
        | inr not ↦ elim (cases_Bool (listed k)) as (λ _. 1 ≤ in-block k) [
          | inl is ↦ (let one : one_if (listed k) ≡ 1 = ap one_if is in omega (arith, one))
          | inr none ↦ elim (cases_lt 0 (below (λ a. one_if (others a k)) n)) as (λ _. 1 ≤ in-block k) [
            | inl some ↦ omega (arith, some)
            | inr few ↦ absurd (true≢false (sym (filled k low (emptied k not none (omega (arith, few)))) ∙ used))
          ]
        ]
      ]
    ]

    all-in : s.blocks ≤ kind_count s kinds.Free + large_of s + shared_in s xs + below (of-other (λ a. shared_blocks (size a))) n
    all-in =
        let b : ℕ = s.blocks in
        let sum : b ≤ below in-block b = at-least in-block b some-in in
        let one = below-sum (λ k. one_if (free k) + one_if (large k) + one_if (listed k)) (λ k. below (λ a. one_if (others a k)) n) b in
        let two = below-sum (λ k. one_if (free k) + one_if (large k)) (λ k. one_if (listed k)) b in
        let three = below-sum (λ k. one_if (free k)) (λ k. one_if (large k)) b in
        let four : below (λ k. below (λ a. one_if (others a k)) n) b ≡ below (λ a. below (λ k. one_if (others a k)) b) n = exchanged (λ a k. one_if (others a k)) n b in
        let five : below (λ a. below (λ k. one_if (others a k)) b) n ≡ below (of-other (λ a. shared_blocks (size a))) n = below-same (λ a. below (λ k. one_if (others a k)) b) (of-other (λ a. shared_blocks (size a))) n of-object in
        omega (arith, sum, one, two, three, four, five)

    pub other-sizes : HasOtherSizes s xs
    other-sizes =
        let ys : List ℕ = range_with_len 0 n in
        let objects : length (held_in s) ≡ below (of-other (λ _. 1)) n + length xs = held-count s ∙ split (λ _. 1) ∙ ap (λ m. below (of-other (λ _. 1)) n + m) (ones xs) in
        let all-words : count_words_at s (held_in s) ≡ below (of-other size) n + count_words_at s xs =
        held-words s ∙ below-same (words_at s) (of-held size) n word-at ∙ split size ∙ ap (λ m. below (of-other size) n + m) (words xs) in
        let all-large : large_of s ≡ below (of-other (λ a. own_blocks (size a))) n + own_in s xs =
        sym (large-exact s order) ∙ split (λ a. own_blocks (size a)) ∙ ap (λ m. below (of-other (λ a. own_blocks (size a))) n + m) (sym (weighed (λ a. own_blocks (size a)) xs)) in
        let some = all-in in
        let count : length (sizes-at ys) ≡ below (of-other (λ _. 1)) n = numbered ys in
        let sum : sum_by (λ m. m) (sizes-at ys) ≡ below (of-other size) n = summed (λ m. m) ys in
        let own : sum_by own_blocks (sizes-at ys) ≡ below (of-other (λ a. own_blocks (size a))) n = summed own_blocks ys in
        let shared : sum_by shared_blocks (sizes-at ys) ≡ below (of-other (λ a. shared_blocks (size a))) n = summed shared_blocks ys in
        record {
          objects = omega (arith, objects);
          words = omega (arith, all-words);
          large = omega (arith, all-large);
          sizes = sizes-at ys;
          are = record {
            each = each-size ys;
            count = omega (arith, objects, count);
            sum = omega (arith, all-words, sum);
            own = omega (arith, all-large, own);
            shared = omega (arith, some, shared);
          };
        }
