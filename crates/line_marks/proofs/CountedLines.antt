-- How many lines of a block are marked, and how many holes it has, a word at a time.
use Rattle.std.proofs.Common.{◌≡◌, sym, ◌∙◌, ap, ℕ, zero, suc, ◌+◌, ◌*◌, ◌-◌, ◌/◌, ◌%◌, ◌^◌, ◌<◌, ◌≤◌, arith, Bool, false, not, nat_eq, inl, inr, length}
use Rattle.side_meta.specs.BitWords.{has_bit}
use Rattle.std.proofs.lemmas.List.Sums.{count_by-le-length}
use Rattle.std.proofs.lemmas.List.FromFn.{length-range_with_len}
use Rattle.std.proofs.lemmas.Bool.{cases_eq, eq-eqb, ne_eqb}
use Rattle.std.specs.Prelude.{◌&&◌, ◌||◌, count_by, count_ones}
use Rattle.std.specs.List.{range_with_len}
use Rattle.std.specs.Int.{bit_at}
use Rattle.heap_layout.specs.Zones.{first, LineWords}
use Rattle.object_model.specs.Objects.{HeapState, word_at, line_marked}
use Rattle.sessions.specs.Collecting.{is_hole_start}
use Rattle.block_sweeps.proofs.BitCounts.{count-same, count-parts, ones-count}

-- word i of the line bits of the heap
abbrev pub line_word : HeapState → ℕ → ℕ
line_word s i = word_at s (first s.blocks LineWords + i)

-- how many of the lines of block k in words up to word i pass a test
abbrev pub counted : (ℕ → Bool) → ℕ → ℕ → ℕ
counted test k i = count_by test (range_with_len 0 (64 * (i - 4 * k)))

pub few : (test : ℕ → Bool) (k i : ℕ) → counted test k i ≤ 64 * (i - 4 * k)
few test k i =
    let most = count_by-le-length test (range_with_len 0 (64 * (i - 4 * k))) in
    let long : length (range_with_len 0 (64 * (i - 4 * k))) ≡ 64 * (i - 4 * k) = length-range_with_len 0 (64 * (i - 4 * k)) in
    omega arith

-- a bit of a line word
pub marked-bit : (s : HeapState) (k i j : ℕ) → 4 * k ≤ i → j < 64 → line_marked s k (64 * (i - 4 * k) + j) ≡ has_bit (line_word s i) j
marked-bit s k i j from small =
    let word : first s.blocks LineWords + (256 * k + (64 * (i - 4 * k) + j)) / 64 ≡ first s.blocks LineWords + i = omega arith in
    let bit : (256 * k + (64 * (i - 4 * k) + j)) % 64 ≡ j = omega arith in
    ap (λ n. nat_eq (bit_at (word_at s n) ((256 * k + (64 * (i - 4 * k) + j)) % 64)) 1) word ∙ ap (λ n. nat_eq (bit_at (line_word s i) n) 1) bit

-- one more word is counted, by a word with a bit for each line that passes the test
pub count-more : (test : ℕ → Bool) (k i word : ℕ) → 4 * k ≤ i → word < 2 ^ 64 → ((j : ℕ) → j < 64 → test (64 * (i - 4 * k) + j) ≡ has_bit word j)
    → counted test k (i + 1) ≡ counted test k i + count_ones word
count-more test k i word from fits same =
    let n : ℕ = 64 * (i - 4 * k) in
    let size : 64 * (i + 1 - 4 * k) ≡ n + 64 = omega arith in
    ap (λ m. count_by test (range_with_len 0 m)) size ∙ count-parts test 0 n 64
    ∙ ap (λ c. count_by test (range_with_len 0 n) + c) (count-same test (has_bit word) (0 + n) 0 64 (λ j small.
    let at : 0 + n + j ≡ n + j = omega arith in let bit : j ≡ 0 + j = omega arith in
    ap test at ∙ same j small ∙ ap (has_bit word) bit) ∙ sym (ones-count 64 word fits))

-- the lines with which holes begin in a word
pub starts-bits : (s : HeapState) (k i before starts : ℕ) → 4 * k ≤ i → (i ≡ 4 * k → before ≡ 1) → (4 * k < i → before ≡ bit_at (line_word s (i - 1)) 63)
    → has_bit starts 0 ≡ (not (has_bit (line_word s i) 0) && nat_eq before 1)
    → ((j : ℕ) → 0 < j → j < 64 → has_bit starts j ≡ (not (has_bit (line_word s i) j) && has_bit (line_word s i) (j - 1)))
    → (j : ℕ) → j < 64 → is_hole_start s k (64 * (i - 4 * k) + j) ≡ has_bit starts j
starts-bits s k i before starts from begin more lowest others (suc j) small =
    let n : ℕ = 64 * (i - 4 * k) in
    let later : nat_eq (n + suc j) 0 ≡ false = ne_eqb (n + suc j) 0 (λ e. omega arith) in
    let previous : n + suc j - 1 ≡ n + j = omega arith in
    let same : suc j - 1 ≡ j = omega arith in
    ap (λ b. not b && (nat_eq (n + suc j) 0 || line_marked s k (n + suc j - 1))) (marked-bit s k i (suc j) from small)
    ∙ ap (λ b. not (has_bit (line_word s i) (suc j)) && (b || line_marked s k (n + suc j - 1))) later
    ∙ ap (λ m. not (has_bit (line_word s i) (suc j)) && line_marked s k m) previous
    ∙ ap (λ b. not (has_bit (line_word s i) (suc j)) && b) (marked-bit s k i j from (omega arith) ∙ ap (has_bit (line_word s i)) (sym same))
    ∙ sym (others (suc j) (omega arith) small)
starts-bits s k i before starts from begin more lowest others zero small = elim (cases_eq i (4 * k)) as (λ _. is_hole_start s k (64 * (i - 4 * k) + 0) ≡ has_bit starts 0) [
  | inl first ↦
      let n : ℕ = 64 * (i - 4 * k) + 0 in
      let none : n ≡ 0 = omega arith in
      ap (λ b. not b && (nat_eq n 0 || line_marked s k (n - 1))) (marked-bit s k i 0 from small)
      ∙ ap (λ b. not (has_bit (line_word s i) 0) && (b || line_marked s k (n - 1))) (eq-eqb n 0 none)
      ∙ ap (λ b. not (has_bit (line_word s i) 0) && b) (sym (eq-eqb before 1 (begin first)))
      ∙ sym lowest
  | inr later ↦
      let n : ℕ = 64 * (i - 4 * k) + 0 in
      let some : nat_eq n 0 ≡ false = ne_eqb n 0 (λ e. later (omega arith)) in
      let previous : n - 1 ≡ 64 * (i - 1 - 4 * k) + 63 = omega arith in
      ap (λ b. not b && (nat_eq n 0 || line_marked s k (n - 1))) (marked-bit s k i 0 from small)
      ∙ ap (λ b. not (has_bit (line_word s i) 0) && (b || line_marked s k (n - 1))) some
      ∙ ap (λ m. not (has_bit (line_word s i) 0) && line_marked s k m) previous
      ∙ ap (λ b. not (has_bit (line_word s i) 0) && b) (marked-bit s k (i - 1) 63 (omega arith) (omega arith) ∙ ap (λ v. nat_eq v 1) (sym (more (omega arith))))
      ∙ sym lowest
]

-- all lines of a block are counted
pub count-all : (test : ℕ → Bool) (k i : ℕ) → i - 4 * k ≡ 4 → counted test k i ≡ count_by test (range_with_len 0 256)
count-all test k i all = ap (λ n. count_by test (range_with_len 0 n)) (let e : 64 * (i - 4 * k) ≡ 256 = omega arith in e)

-- the line words of the row
pub word-read : (s : HeapState) (at i word : ℕ) → at ≡ first s.blocks LineWords → word ≡ word_at s (at + i) → word ≡ line_word s i
word-read s at i word place is = is ∙ ap (λ p. word_at s (p + i)) place
