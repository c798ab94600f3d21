-- Sums of marked lines over blocks, by how many holes they have.
use Rattle.std.proofs.Common.{◌≡◌, refl, sym, ap, ◌∙◌, inl, inr, ℕ, ◌+◌, ◌*◌, ◌<◌, ◌≤◌, Bool, true, false, ◌&&◌, cond, nat_eq, nat_lt, nat_le, List, [], ◌∷◌, length, take, slice_index, slice_index_or, slice_set, Fits, w32, ◌-◌, arith}
use Rattle.std.specs.Prelude.{All, sum_by}
use Rattle.std.proofs.lemmas.Bool.{cases_lt, cases_eq, lt-ltb, le-ltb, le-leb, lt-leb, eq-eqb, ne_eqb}
use Rattle.std.proofs.lemmas.List.Sums.{sum_by-cons, sum_by-le, sum_by_more, sum_by-take-le}
use Rattle.std.proofs.lemmas.List.{get_or-set_same, get_or-set_other, get_or_default}
use Rattle.line_marks.specs.declared.holes.LineCounts.{LineCounts}
use Rattle.immix_space.specs.Candidates.{no_counts, HasFewLines, marked_with, marked_above, is_chosen}

-- lines that count if the test passes
abbrev pub mark : Bool → ℕ → ℕ
mark test lines = cond test lines 0

pub mark-set : (test : Bool) (lines : ℕ) → test ≡ true → mark test lines ≡ lines
mark-set test lines is = ap (λ b. mark b lines) is

pub mark-clear : (test : Bool) (lines : ℕ) → test ≡ false → mark test lines ≡ 0
mark-clear test lines is = ap (λ b. mark b lines) is

mark-least : (test : Bool) (lines : ℕ) → mark test lines ≤ lines
mark-least true lines = omega arith
mark-least false lines = omega arith

-- a sum in two parts
pub sum-split : {X : Type 0} (f g h : X → ℕ) → ((x : X) → f x ≡ g x + h x) → (xs : List X) → sum_by f xs ≡ sum_by g xs + sum_by h xs
sum-split f g h same [] = refl
sum-split f g h same (x ∷ xs) =
    let whole : sum_by f (x ∷ xs) ≡ f x + sum_by f xs = sum_by-cons f x xs in
    let left : sum_by g (x ∷ xs) ≡ g x + sum_by g xs = sum_by-cons g x xs in
    let right : sum_by h (x ∷ xs) ≡ h x + sum_by h xs = sum_by-cons h x xs in
    let rest : sum_by f xs ≡ sum_by g xs + sum_by h xs = sum-split f g h same xs in
    let here : f x ≡ g x + h x = same x in
    omega arith

pub sum-same : {X : Type 0} (f g : X → ℕ) → ((x : X) → f x ≡ g x) → (xs : List X) → sum_by f xs ≡ sum_by g xs
sum-same f g same [] = refl
sum-same f g same (x ∷ xs) = sum_by-cons f x xs ∙ ap (λ n. n + sum_by f xs) (same x) ∙ ap (λ n. g x + n) (sum-same f g same xs) ∙ sym (sum_by-cons g x xs)

-- the marked lines of the blocks that have n or more holes
abbrev pub marked_from : ℕ → List LineCounts → ℕ
marked_from n counts = sum_by (λ c. mark (nat_le n c.holes) c.marked) counts

split-at : (n holes lines : ℕ) → mark (nat_le n holes) lines ≡ mark (nat_eq n holes) lines + mark (nat_lt n holes) lines
split-at n holes lines = elim (cases_lt n holes) as (λ _. mark (nat_le n holes) lines ≡ mark (nat_eq n holes) lines + mark (nat_lt n holes) lines) [
  | inl less ↦
      let a : mark (nat_le n holes) lines ≡ lines = mark-set (nat_le n holes) lines (le-leb n holes (omega arith)) in
      let b : mark (nat_eq n holes) lines ≡ 0 = mark-clear (nat_eq n holes) lines (ne_eqb n holes (λ e. omega arith)) in
      let c : mark (nat_lt n holes) lines ≡ lines = mark-set (nat_lt n holes) lines (lt-ltb n holes less) in
      omega arith
  | inr most ↦
      let c : mark (nat_lt n holes) lines ≡ 0 = mark-clear (nat_lt n holes) lines (le-ltb n holes most) in
      elim (cases_eq n holes) as (λ _. mark (nat_le n holes) lines ≡ mark (nat_eq n holes) lines + mark (nat_lt n holes) lines) [
        | inl same ↦
            let a : mark (nat_le n holes) lines ≡ lines = mark-set (nat_le n holes) lines (le-leb n holes (omega arith)) in
            let b : mark (nat_eq n holes) lines ≡ lines = mark-set (nat_eq n holes) lines (eq-eqb n holes same) in
            omega arith
        | inr other ↦
            let a : mark (nat_le n holes) lines ≡ 0 = mark-clear (nat_le n holes) lines (lt-leb n holes (omega arith)) in
            let b : mark (nat_eq n holes) lines ≡ 0 = mark-clear (nat_eq n holes) lines (ne_eqb n holes other) in
            omega arith
      ]
]

pub from-split : (n : ℕ) (counts : List LineCounts) → marked_from n counts ≡ marked_with n counts + marked_above n counts
from-split n counts = sum-split (λ (c : LineCounts). mark (nat_le n c.holes) c.marked) (λ (c : LineCounts). mark (nat_eq n c.holes) c.marked) (λ (c : LineCounts). mark (nat_lt n c.holes) c.marked) (λ c. split-at n c.holes c.marked) counts

above-next : (n holes lines : ℕ) → mark (nat_le (n + 1) holes) lines ≡ mark (nat_lt n holes) lines
above-next n holes lines = elim (cases_lt n holes) as (λ _. mark (nat_le (n + 1) holes) lines ≡ mark (nat_lt n holes) lines) [
  | inl less ↦ mark-set (nat_le (n + 1) holes) lines (le-leb (n + 1) holes (omega arith)) ∙ sym (mark-set (nat_lt n holes) lines (lt-ltb n holes less))
  | inr most ↦ mark-clear (nat_le (n + 1) holes) lines (lt-leb (n + 1) holes (omega arith)) ∙ sym (mark-clear (nat_lt n holes) lines (le-ltb n holes most))
]

pub from-next : (n : ℕ) (counts : List LineCounts) → marked_from (n + 1) counts ≡ marked_above n counts
from-next n counts = sum-same (λ (c : LineCounts). mark (nat_le (n + 1) c.holes) c.marked) (λ (c : LineCounts). mark (nat_lt n c.holes) c.marked) (λ c. above-next n c.holes c.marked) counts

-- no block has more holes than lines
pub none-from : (counts : List LineCounts) → All HasFewLines counts → marked_from 257 counts ≡ 0
none-from counts few =
    let most : marked_from 257 counts ≤ length counts * 0 = sum_by-le (λ (c : LineCounts). mark (nat_le 257 c.holes) c.marked) 0 counts
    (λ i d below. none (few i d below)) in
    omega arith
  where
    none : {c : LineCounts} → HasFewLines c → mark (nat_le 257 c.holes) c.marked ≤ 0
    none {c} is = (let holes = is.holes in let e : mark (nat_le 257 c.holes) c.marked ≡ 0 = mark-clear (nat_le 257 c.holes) c.marked (lt-leb 257 c.holes (omega arith)) in omega arith)

-- such sums have 32 bits
pub few-lines : (test : LineCounts → Bool) (counts : List LineCounts) → All HasFewLines counts → length counts ≤ 1024 → sum_by (λ c. mark (test c) c.marked) counts ≤ 262144
few-lines test counts few long =
    let most : sum_by (λ (c : LineCounts). mark (test c) c.marked) counts ≤ length counts * 256 = sum_by-le (λ (c : LineCounts). mark (test c) c.marked) 256 counts
    (λ i d below. within (few i d below)) in
    omega arith
  where
    within : {c : LineCounts} → HasFewLines c → mark (test c) c.marked ≤ 256
    within {c} is = (let least = mark-least (test c) c.marked in let lines = is.marked in omega arith)

pub fits-sum : (x y m n : ℕ) → x ≡ m → y ≡ n → m ≤ 524288 → n ≤ 262144 → Fits w32 (x + y)
fits-sum x y m n same same' most most' = omega arith

-- sums over the first i blocks
module _ (counts : List LineCounts) (few : All HasFewLines counts) (long : length counts ≤ 1024) where
  pub with-few : (n i : ℕ) → marked_with n (take i counts) ≤ 262144
  with-few n i =
      let part : marked_with n (take i counts) ≤ marked_with n counts = sum_by-take-le (λ (c : LineCounts). mark (nat_eq n c.holes) c.marked) counts i in
      let most : marked_with n counts ≤ 262144 = few-lines (λ c. nat_eq n c.holes) counts few long in
      omega arith

  pub all-with-few : (n : ℕ) → marked_with n counts ≤ 262144
  all-with-few n = few-lines (λ c. nat_eq n c.holes) counts few long

  pub above-few : (n : ℕ) → marked_above n counts ≤ 262144
  above-few n = few-lines (λ c. nat_lt n c.holes) counts few long

  pub from-few : (n : ℕ) → marked_from n counts ≤ 262144
  from-few n = few-lines (λ c. nat_le n c.holes) counts few long

  pub both-few : (n i : ℕ) → marked_above n counts + marked_with n (take i counts) ≤ 524288
  both-few n i = (let a : marked_above n counts ≤ 262144 = above-few n in let b : marked_with n (take i counts) ≤ 262144 = with-few n i in omega arith)

pub below-length : (n : ℕ) (items : List ℕ) → n ≤ 256 → length items ≡ 257 → n < length items
below-length n items most long = omega arith

-- what is read of a list
pub read-at : (items : List ℕ) (i x : ℕ) → x ≡ slice_index_or items i x → i < length items → x ≡ slice_index items i
read-at items i x is there = is ∙ get_or_default items i x 0 there

-- one more block is added to the lines of those with as many holes
module _ (counts : List LineCounts) (i : ℕ) (there : i < length counts) where
  abbrev entry : LineCounts
  entry = slice_index_or counts i no_counts

  pub with-more : (n : ℕ) → marked_with n (take (i + 1) counts) ≡ marked_with n (take i counts) + mark (nat_eq n entry.holes) entry.marked
  with-more n = sum_by_more (λ (c : LineCounts). mark (nat_eq n c.holes) c.marked) counts i no_counts there

  pub both-more : (n : ℕ) → marked_above n counts + marked_with n (take (i + 1) counts) ≡ marked_above n counts + marked_with n (take i counts) + mark (nat_eq n entry.holes) entry.marked
  both-more n = (let more : marked_with n (take (i + 1) counts) ≡ marked_with n (take i counts) + mark (nat_eq n entry.holes) entry.marked = with-more n in omega arith)

  own-more : (x : ℕ) → x ≡ marked_above entry.holes counts + marked_with entry.holes (take i counts) → x + entry.marked ≡ marked_above entry.holes counts + marked_with entry.holes (take (i + 1) counts)
  own-more x is =
      let more : marked_above entry.holes counts + marked_with entry.holes (take (i + 1) counts) ≡ marked_above entry.holes counts + marked_with entry.holes (take i counts) + mark (nat_eq entry.holes entry.holes) entry.marked = both-more entry.holes in
      let own : mark (nat_eq entry.holes entry.holes) entry.marked ≡ entry.marked = mark-set (nat_eq entry.holes entry.holes) entry.marked (eq-eqb entry.holes entry.holes refl) in
      omega arith

  pub chosen-next : (x room : ℕ) (result : Bool) → x ≡ marked_above entry.holes counts + marked_with entry.holes (take i counts)
      → result ≡ (nat_lt 0 entry.marked && nat_le (x + entry.marked) room) → result ≡ is_chosen counts room i
  chosen-next x room result is result-is = result-is ∙ ap (λ (n : ℕ). nat_lt 0 entry.marked && nat_le n room) (own-more x is)

pub lines-more : (items : List ℕ) (h m x : ℕ) (f f' : ℕ → ℕ) → length items ≡ 257 → h ≤ 256 → ((n : ℕ) → n ≤ 256 → slice_index items n ≡ f n) → x ≡ f h
    → ((n : ℕ) → f' n ≡ f n + mark (nat_eq n h) m) → (n : ℕ) → n ≤ 256 → slice_index (slice_set items h (x + m)) n ≡ f' n
lines-more items h m x f f' long below lines is more n most = elim (cases_eq n h) as (λ _. slice_index (slice_set items h (x + m)) n ≡ f' n) [
  | inl same ↦ ap (λ (j : ℕ). slice_index (slice_set items h (x + m)) j) same ∙ get_or-set_same items h (x + m) 0 (omega arith)
      ∙ ap (λ (j : ℕ). j + m) is ∙ ap (λ (j : ℕ). f h + j) (sym (mark-set (nat_eq h h) m (eq-eqb h h refl))) ∙ sym (more h) ∙ ap f' (sym same)
  | inr other ↦ get_or-set_other items h n (x + m) 0 other ∙ lines n most ∙ rest (f n) ∙ ap (λ (j : ℕ). f n + j) (sym (mark-clear (nat_eq n h) m (ne_eqb n h other))) ∙ sym (more n)
]
  where
    rest : (j : ℕ) → j ≡ j + 0
    rest j = omega arith

-- lines of blocks with as many holes become lines of those with more, from the most holes down
module _ (counts : List LineCounts) (items : List ℕ) (holes above own : ℕ) (some : 0 < holes) (most : holes ≤ 257) (long : length items ≡ 257) (above-is : above ≡ marked_from holes counts)
    (left : (n : ℕ) → n < holes → slice_index items n ≡ marked_with n counts) (done : (n : ℕ) → holes ≤ n → n ≤ 256 → slice_index items n ≡ marked_above n counts)
    (own-is : own ≡ slice_index items (holes - 1)) where
  last : holes - 1 < holes
  last = omega arith

  one-more : holes ≡ holes - 1 + 1
  one-more = omega arith

  next : above ≡ marked_above (holes - 1) counts
  next = above-is ∙ ap (λ (n : ℕ). marked_from n counts) one-more ∙ from-next (holes - 1) counts

  pub above-more : above + own ≡ marked_from (holes - 1) counts
  above-more = ap (λ (n : ℕ). n + own) next ∙ ap (λ (n : ℕ). marked_above (holes - 1) counts + n) (own-is ∙ left (holes - 1) last)
      ∙ swap (marked_above (holes - 1) counts) (marked_with (holes - 1) counts) ∙ sym (from-split (holes - 1) counts)
    where
      swap : (a b : ℕ) → a + b ≡ b + a
      swap a b = omega arith

  pub left-less : (n : ℕ) → n < holes - 1 → slice_index (slice_set items (holes - 1) above) n ≡ marked_with n counts
  left-less n below = get_or-set_other items (holes - 1) n above 0 (λ e. omega arith) ∙ left n (omega arith)

  pub done-more : (n : ℕ) → holes - 1 ≤ n → n ≤ 256 → slice_index (slice_set items (holes - 1) above) n ≡ marked_above n counts
  done-more n from below = elim (cases_eq n (holes - 1)) as (λ _. slice_index (slice_set items (holes - 1) above) n ≡ marked_above n counts) [
    | inl same ↦ ap (λ (j : ℕ). slice_index (slice_set items (holes - 1) above) j) same ∙ get_or-set_same items (holes - 1) above 0 (omega arith) ∙ next ∙ ap (λ (j : ℕ). marked_above j counts) (sym same)
    | inr other ↦ get_or-set_other items (holes - 1) n above 0 other ∙ done n (omega arith) below
  ]
