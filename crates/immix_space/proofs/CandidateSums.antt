-- The marked lines of a recyclable block and of those that are evacuated before it.
use Rattle.std.proofs.Common.{◌≡◌, refl, sym, ap, ◌∙◌, subst, inl, inr, ℕ, zero, suc, ◌+◌, ◌*◌, ◌-◌, ◌<◌, ◌≤◌, Bool, true, false, ◌&&◌, ◌||◌, cond, nat_eq, nat_lt, nat_le, List, length, map, take, slice_index_or, arith}
use Rattle.std.specs.Prelude.{All, sum_by, count_by}
use Rattle.std.specs.List.{range_with_len}
use Rattle.std.proofs.lemmas.Bool.{cases_Bool, cases_lt, lt-ltb, le-ltb, le-leb, lt-leb, ne_eqb, and_parts}
use Rattle.std.proofs.lemmas.List.Sums.{sum_by-cons, count_by-le-length}
use Rattle.std.proofs.lemmas.List.Elements.{All-same, All-map}
use Rattle.std.proofs.lemmas.List.FromFn.{get_or-map-range_with_len, take-map-range_with_len, length-map-range_with_len, length-range_with_len, fill_by_all}
use Rattle.object_model.specs.Objects.{HeapState, line_marked}
use Rattle.sessions.specs.Collecting.{is_hole_start, holes_in, marked_in, is_recyclable, is_by, is_candidate}
use Rattle.sessions.specs.Fitting.{free_of}
use Rattle.line_marks.specs.declared.holes.LineCounts.{LineCounts}
use Rattle.immix_space.specs.Candidates.{no_counts, counts_at, HasFewLines, marked_with, marked_above, is_chosen}
use Rattle.immix_space.proofs.MarkedSums.{mark, mark-set, mark-clear, sum-split}

-- sums over ranges of numbers
range-parts : (f : ℕ → ℕ) (a m n : ℕ) → sum_by f (range_with_len a (m + n)) ≡ sum_by f (range_with_len a m) + sum_by f (range_with_len (a + m) n)
range-parts f a zero n =
    let whole : sum_by f (range_with_len a (zero + n)) ≡ sum_by f (range_with_len a n) = ap (λ k. sum_by f (range_with_len a k)) (let e : zero + n ≡ n = omega arith in e) in
    let second : sum_by f (range_with_len (a + zero) n) ≡ sum_by f (range_with_len a n) = ap (λ k. sum_by f (range_with_len k n)) (let e : a + zero ≡ a = omega arith in e) in
    let none : sum_by f (range_with_len a zero) ≡ 0 = refl in
    omega arith
range-parts f a (suc m) n =
    let whole : sum_by f (range_with_len a (suc m + n)) ≡ sum_by f (range_with_len a (suc (m + n))) = ap (λ k. sum_by f (range_with_len a k)) (let e : suc m + n ≡ suc (m + n) = omega arith in e) in
    let long : sum_by f (range_with_len a (suc (m + n))) ≡ f a + sum_by f (range_with_len (a + 1) (m + n)) = sum_by-cons f a (range_with_len (a + 1) (m + n)) in
    let short : sum_by f (range_with_len a (suc m)) ≡ f a + sum_by f (range_with_len (a + 1) m) = sum_by-cons f a (range_with_len (a + 1) m) in
    let rest : sum_by f (range_with_len (a + 1) (m + n)) ≡ sum_by f (range_with_len (a + 1) m) + sum_by f (range_with_len (a + 1 + m) n) = range-parts f (a + 1) m n in
    let second : sum_by f (range_with_len (a + 1 + m) n) ≡ sum_by f (range_with_len (a + suc m) n) = ap (λ k. sum_by f (range_with_len k n)) (let e : a + 1 + m ≡ a + suc m = omega arith in e) in
    omega arith

range-same : (f g : ℕ → ℕ) (a n : ℕ) → ((j : ℕ) → a ≤ j → j < a + n → f j ≡ g j) → sum_by f (range_with_len a n) ≡ sum_by g (range_with_len a n)
range-same f g a zero same = refl
range-same f g a (suc n) same =
    let left : sum_by f (range_with_len a (suc n)) ≡ f a + sum_by f (range_with_len (a + 1) n) = sum_by-cons f a (range_with_len (a + 1) n) in
    let right : sum_by g (range_with_len a (suc n)) ≡ g a + sum_by g (range_with_len (a + 1) n) = sum_by-cons g a (range_with_len (a + 1) n) in
    let here : f a ≡ g a = same a (omega arith) (omega arith) in
    let rest : sum_by f (range_with_len (a + 1) n) ≡ sum_by g (range_with_len (a + 1) n) = range-same f g (a + 1) n (λ j from below. same j (omega arith) (omega arith)) in
    omega arith

range-none : (f : ℕ → ℕ) (a n : ℕ) → ((j : ℕ) → a ≤ j → j < a + n → f j ≡ 0) → sum_by f (range_with_len a n) ≡ 0
range-none f a zero none = refl
range-none f a (suc n) none =
    let left : sum_by f (range_with_len a (suc n)) ≡ f a + sum_by f (range_with_len (a + 1) n) = sum_by-cons f a (range_with_len (a + 1) n) in
    let here : f a ≡ 0 = none a (omega arith) (omega arith) in
    let rest : sum_by f (range_with_len (a + 1) n) ≡ 0 = range-none f (a + 1) n (λ j from below. none j (omega arith) (omega arith)) in
    omega arith

-- a sum over a list that is made of numbers
sum-map : {X : Type 0} (f : X → ℕ) (g : ℕ → X) (a n : ℕ) → sum_by f (map g (range_with_len a n)) ≡ sum_by (λ j. f (g j)) (range_with_len a n)
sum-map f g a zero = refl
sum-map f g a (suc n) = sum_by-cons f (g a) (map g (range_with_len (a + 1) n)) ∙ ap (λ m. f (g a) + m) (sum-map f g (a + 1) n) ∙ sym (sum_by-cons (λ j. f (g j)) a (range_with_len (a + 1) n))

-- the counts of a block by whether it is recyclable
abbrev counts_if : Bool → ℕ → ℕ → LineCounts
counts_if recyclable holes marked = cond recyclable (record { holes = holes; marked = marked }) no_counts

mark-none : (test : Bool) → mark test 0 ≡ 0
mark-none true = refl
mark-none false = refl

-- a block that is evacuated before one with n holes has more, or as many and a lower number
parts : (recyclable lower : Bool) (n holes marked : ℕ) → mark (recyclable && (nat_lt n holes || (nat_eq n holes && lower))) marked
    ≡ mark (nat_lt n (counts_if recyclable holes marked).holes) (counts_if recyclable holes marked).marked
    + mark (nat_eq n (counts_if recyclable holes marked).holes && lower) (counts_if recyclable holes marked).marked
parts false lower n holes marked =
    let a : mark (nat_lt n 0) 0 ≡ 0 = mark-none (nat_lt n 0) in
    let b : mark (nat_eq n 0 && lower) 0 ≡ 0 = mark-none (nat_eq n 0 && lower) in
    omega arith
parts true lower n holes marked = elim (cases_lt n holes) as (λ _. mark (nat_lt n holes || (nat_eq n holes && lower)) marked ≡ mark (nat_lt n holes) marked + mark (nat_eq n holes && lower) marked) [
  | inl less ↦
      let a : mark (nat_lt n holes || (nat_eq n holes && lower)) marked ≡ marked = ap (λ b. mark (b || (nat_eq n holes && lower)) marked) (lt-ltb n holes less) in
      let b : mark (nat_lt n holes) marked ≡ marked = mark-set (nat_lt n holes) marked (lt-ltb n holes less) in
      let c : mark (nat_eq n holes && lower) marked ≡ 0 = ap (λ b. mark (b && lower) marked) (ne_eqb n holes (λ e. omega arith)) in
      omega arith
  | inr most ↦
      let a : mark (nat_lt n holes || (nat_eq n holes && lower)) marked ≡ mark (nat_eq n holes && lower) marked = ap (λ b. mark (b || (nat_eq n holes && lower)) marked) (le-ltb n holes most) in
      let b : mark (nat_lt n holes) marked ≡ 0 = mark-clear (nat_lt n holes) marked (le-ltb n holes most) in
      omega arith
]

and-true : (a b : Bool) → b ≡ true → (a && b) ≡ a
and-true true b is = is
and-true false b is = refl

and-false : (a b : Bool) → b ≡ false → (a && b) ≡ false
and-false true b is = is
and-false false b is = refl

module _ (s : HeapState) (k : ℕ) (there : k < s.blocks) where
  abbrev counts : List LineCounts
  counts = map (counts_at s) (range_with_len 0 s.blocks)

  abbrev n : ℕ
  n = holes_in s k

  -- those that are evacuated before block k, and it
  abbrev before : ℕ → ℕ
  before j = mark (is_recyclable s j && is_by s k j) (marked_in s j)

  abbrev above : ℕ → ℕ
  above j = mark (nat_lt n (counts_at s j).holes) (counts_at s j).marked

  abbrev equal : ℕ → ℕ
  equal j = mark (nat_eq n (counts_at s j).holes) (counts_at s j).marked

  abbrev equal_by : ℕ → ℕ
  equal_by j = mark (nat_eq n (counts_at s j).holes && nat_le j k) (counts_at s j).marked

  lower-ones : sum_by equal_by (range_with_len 0 s.blocks) ≡ sum_by equal (range_with_len 0 (k + 1))
  lower-ones =
      let rest : ℕ = s.blocks - (k + 1) in
      let whole : sum_by equal_by (range_with_len 0 s.blocks) ≡ sum_by equal_by (range_with_len 0 (k + 1 + rest)) = ap (λ m. sum_by equal_by (range_with_len 0 m)) (let e : s.blocks ≡ k + 1 + rest = omega arith in e) in
      let two : sum_by equal_by (range_with_len 0 (k + 1 + rest)) ≡ sum_by equal_by (range_with_len 0 (k + 1)) + sum_by equal_by (range_with_len (0 + (k + 1)) rest) = range-parts equal_by 0 (k + 1) rest in
      let low : sum_by equal_by (range_with_len 0 (k + 1)) ≡ sum_by equal (range_with_len 0 (k + 1)) = range-same equal_by equal 0 (k + 1) (λ j from below.
      ap (λ b. mark b (counts_at s j).marked) (and-true (nat_eq n (counts_at s j).holes) (nat_le j k) (le-leb j k (omega arith)))) in
      let high : sum_by equal_by (range_with_len (0 + (k + 1)) rest) ≡ 0 = range-none equal_by (0 + (k + 1)) rest (λ j from below.
      mark-clear (nat_eq n (counts_at s j).holes && nat_le j k) (counts_at s j).marked (and-false (nat_eq n (counts_at s j).holes) (nat_le j k) (lt-leb j k (omega arith)))) in
      omega arith

  sums : sum_by before (range_with_len 0 s.blocks) ≡ marked_above n counts + marked_with n (take (k + 1) counts)
  sums =
      let two : sum_by before (range_with_len 0 s.blocks) ≡ sum_by above (range_with_len 0 s.blocks) + sum_by equal_by (range_with_len 0 s.blocks) =
      sum-split before above equal_by (λ j. parts (is_recyclable s j) (nat_le j k) n (holes_in s j) (marked_in s j)) (range_with_len 0 s.blocks) in
      let more : marked_above n counts ≡ sum_by above (range_with_len 0 s.blocks) = sum-map (λ (c : LineCounts). mark (nat_lt n c.holes) c.marked) (counts_at s) 0 s.blocks in
      let part : take (k + 1) counts ≡ map (counts_at s) (range_with_len 0 (k + 1)) = take-map-range_with_len (counts_at s) 0 s.blocks (k + 1) (omega arith) in
      let same : marked_with n (take (k + 1) counts) ≡ sum_by equal (range_with_len 0 (k + 1)) = ap (marked_with n) part ∙ sum-map (λ (c : LineCounts). mark (nat_eq n c.holes) c.marked) (counts_at s) 0 (k + 1) in
      let lower = lower-ones in
      omega arith

  -- the choice by the counts c of the block
  abbrev choice : LineCounts → Bool
  choice c = nat_lt 0 c.marked && nat_le (marked_above c.holes counts + marked_with c.holes (take (k + 1) counts)) (256 * free_of s)

  own : is_chosen counts (256 * free_of s) k ≡ choice (counts_at s k)
  own = ap choice (get_or-map-range_with_len (counts_at s) 0 s.blocks k k no_counts there (omega arith))

  pub chosen-candidate : is_chosen counts (256 * free_of s) k ≡ is_candidate s k
  chosen-candidate = elim (cases_Bool (is_recyclable s k)) as (λ _. is_chosen counts (256 * free_of s) k ≡ is_candidate s k) [
    | inr clear ↦ own ∙ ap (λ r. choice (counts_if r n (marked_in s k))) clear ∙ sym (ap (λ r. r && nat_le (sum_by before (range_with_len 0 s.blocks)) (256 * free_of s)) clear)
    | inl is ↦ own ∙ ap (λ r. choice (counts_if r n (marked_in s k))) is
        ∙ ap (λ b. b && nat_le (marked_above n counts + marked_with n (take (k + 1) counts)) (256 * free_of s)) (and_parts _ _ (and_parts _ _ is).0).1
        ∙ ap (λ m. nat_le m (256 * free_of s)) (sym sums)
        ∙ sym (ap (λ r. r && nat_le (sum_by before (range_with_len 0 s.blocks)) (256 * free_of s)) is)
  ]

-- no block has more holes or marked lines than lines
few-at : (s : HeapState) (k : ℕ) → HasFewLines (counts_at s k)
few-at s k = elim (cases_Bool (is_recyclable s k)) as (λ _. HasFewLines (counts_at s k)) [
  | inl is ↦ subst (λ (r : Bool). HasFewLines (counts_if r (holes_in s k) (marked_in s k))) (sym is) (record { holes = most (is_hole_start s k); marked = most (line_marked s k) })
  | inr clear ↦ subst (λ (r : Bool). HasFewLines (counts_if r (holes_in s k) (marked_in s k))) (sym clear) (record { holes = omega arith; marked = omega arith })
]
  where
    most : (test : ℕ → Bool) → count_by test (range_with_len 0 256) ≤ 256
    most test = (let least = count_by-le-length test (range_with_len 0 256) in let long : length (range_with_len 0 256) ≡ 256 = length-range_with_len 0 256 in omega arith)

pub few-all : (s : HeapState) (list : List LineCounts) → list ≡ map (counts_at s) (range_with_len 0 s.blocks) → All HasFewLines list
few-all s list is = All-same HasFewLines list (map (counts_at s) (range_with_len 0 s.blocks)) is
    (All-map HasFewLines (counts_at s) (range_with_len 0 s.blocks) (λ i d below. few-at s (slice_index_or (range_with_len 0 s.blocks) i d)))

pub as-many : (s : HeapState) (list : List LineCounts) → list ≡ map (counts_at s) (range_with_len 0 s.blocks) → length list ≡ s.blocks
as-many s list is = ap length is ∙ length-map-range_with_len (counts_at s) 0 s.blocks

-- all blocks at once
pub chosen-all : (s : HeapState) (list : List LineCounts) (room : ℕ) (chosen : List Bool) → list ≡ map (counts_at s) (range_with_len 0 s.blocks)
    → room ≡ 256 * free_of s → chosen ≡ map (is_chosen list room) (range_with_len 0 (length list)) → chosen ≡ map (is_candidate s) (range_with_len 0 s.blocks)
chosen-all s list room chosen is room-is chosen-is =
    let long : length list ≡ s.blocks = as-many s list is in
    let same : chosen ≡ map (is_chosen (map (counts_at s) (range_with_len 0 s.blocks)) (256 * free_of s)) (range_with_len 0 s.blocks) =
    chosen-is ∙ ap (λ m. map (is_chosen list room) (range_with_len 0 m)) long
    ∙ ap (λ l. map (is_chosen l room) (range_with_len 0 s.blocks)) is
    ∙ ap (λ r. map (is_chosen (map (counts_at s) (range_with_len 0 s.blocks)) r) (range_with_len 0 s.blocks)) room-is in
    same ∙ fill_by_all (is_candidate s) (map (is_chosen (map (counts_at s) (range_with_len 0 s.blocks)) (256 * free_of s)) (range_with_len 0 s.blocks)) s.blocks false
    (length-map-range_with_len (is_chosen (map (counts_at s) (range_with_len 0 s.blocks)) (256 * free_of s)) 0 s.blocks)
    (λ k below. get_or-map-range_with_len (is_chosen (map (counts_at s) (range_with_len 0 s.blocks)) (256 * free_of s)) 0 s.blocks k k false below (omega arith) ∙ chosen-candidate s k below)
