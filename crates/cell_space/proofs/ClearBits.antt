-- The first clear bit among those where cells begin.
use Rattle.std.proofs.Common.{◌≡◌, ◌≢◌, sym, ◌∙◌, ap, ℕ, ◌+◌, ◌*◌, ◌-◌, ◌/◌, ◌%◌, ◌^◌, ◌<◌, ◌≤◌, min, inl, inr, bit_and, w64, add-zero, arith, nat_eq, if◌then◌else◌}
use Rattle.std.specs.Int.{bit_at, bit_not}
use Rattle.std.specs.Int.Count.{count_trailing_zeros}
use Rattle.std.proofs.Math.Nat.{mul-mod_left}
use Rattle.std.proofs.lemmas.Bool.{cases_lt, cases_eq, cond-true, cond-false, eq-eqb, false_from_ne_true, eqb-true}
use Rattle.std.proofs.lemmas.Nat.{pow_pos, shr_split, mod_below, div-add-mod', and_le_l}
use Rattle.std.proofs.lemmas.Nat.Bits.{bit_at-zero, bit_at-lt, bit_at_and, bit_at_not, bit_at_cat_low, bit_at_cat_high, bit_at-trailing_zeros}
use Rattle.cell_space.specs.WordCells.{IsClearStart, IsFirstClear, HasNoneClear}

-- the bits of a word that was shifted up
low-bits : (x n : ℕ) → n < 64 → bit_at (x % 2 ^ 64) n ≡ bit_at x n
low-bits x n small = sym (bit_at_cat_low (x / 2 ^ 64) 64 (x % 2 ^ 64) n small) ∙ ap (λ v. bit_at v n) (shr_split x 64)

shifted-low : (p s n : ℕ) → n < 64 → n < s → bit_at (p * 2 ^ s % 2 ^ 64) n ≡ 0
shifted-low p s n small before = low-bits (p * 2 ^ s) n small ∙ ap (λ v. bit_at v n) (sym (add-zero (p * 2 ^ s))) ∙ bit_at_cat_low p s 0 n before ∙ bit_at-zero n

shifted-high : (p s n : ℕ) → n < 64 → s ≤ n → bit_at (p * 2 ^ s % 2 ^ 64) n ≡ bit_at p (n - s)
shifted-high p s n small after = low-bits (p * 2 ^ s) n small ∙ ap (λ v. bit_at v n) (sym (add-zero (p * 2 ^ s))) ∙ bit_at_cat_high p s 0 n (pow_pos s) after

-- the word p has a bit where a cell of `size` words begins, if one begins at bit 0
module _ (starts size bit p : ℕ) (fits : starts < 2 ^ 64) (low : bit < 64)
    (cells : (n : ℕ) → n < 64 → bit_at p n ≡ (if nat_eq (n % size) 0 then 1 else 0)) where
  abbrev pub free : ℕ
  free = bit_and (p * 2 ^ bit % 2 ^ 64) (bit_not w64 starts)

  free-bit : (n : ℕ) → n < 64 → bit_at free n ≡ min (bit_at (p * 2 ^ bit % 2 ^ 64) n) (1 - bit_at starts n)
  free-bit n small = bit_at_and (p * 2 ^ bit % 2 ^ 64) (bit_not w64 starts) n ∙ ap (min (bit_at (p * 2 ^ bit % 2 ^ 64) n)) (bit_at_not w64 starts n fits small)

  to-free : (n : ℕ) → IsClearStart starts size bit n → bit_at free n ≡ 1
  to-free n is =
      let place : n ≡ bit + is.index * size = is.start in
      let small : n < 64 = is.inside in
      let away : n - bit ≡ is.index * size = omega arith in
      let whole : (n - bit) % size ≡ 0 = ap (λ x. x % size) away ∙ mul-mod_left is.index size in
      let cell : bit_at (p * 2 ^ bit % 2 ^ 64) n ≡ 1 = shifted-high p bit n small (omega arith) ∙ cells (n - bit) (omega arith) ∙ cond-true (nat_eq ((n - bit) % size) 0) 1 0 (eq-eqb ((n - bit) % size) 0 whole) in
      let clear : bit_at starts n ≡ 0 = is.clear in
      let both = free-bit n small in
      omega (arith, both, cell, clear)

  of-free : (n : ℕ) → n < 64 → bit_at free n ≡ 1 → IsClearStart starts size bit n
  of-free n small set =
      let both = free-bit n small in
      elim (cases_lt n bit) as (λ _. IsClearStart starts size bit n) [
        | inl before ↦ absurd (let none = shifted-low p bit n small before in omega (arith, both, none, set))
        | inr after ↦ elim (cases_eq ((n - bit) % size) 0) as (λ _. IsClearStart starts size bit n) [
          | inl whole ↦ record {
            index = (n - bit) / size;
            start = (let parts : (n - bit) / size * size + (n - bit) % size ≡ n - bit = div-add-mod' (n - bit) size in omega (arith, parts, whole, after));
            inside = small;
            clear = (let bound = bit_at-lt starts n in omega (arith, both, set, bound));
          }
          | inr part ↦ absurd (
              let none : bit_at (p * 2 ^ bit % 2 ^ 64) n ≡ 0 = shifted-high p bit n small after ∙ cells (n - bit) (omega arith)
              ∙ cond-false (nat_eq ((n - bit) % size) 0) 1 0 (false_from_ne_true (nat_eq ((n - bit) % size) 0) (λ is. part (eqb-true ((n - bit) % size) 0 is))) in
              omega (arith, both, none, set))
        ]
      ]

  pub none-clear : free ≡ 0 → HasNoneClear starts size bit
  none-clear nil n is = absurd (let one = to-free n is in let zero : bit_at free n ≡ 0 = ap (λ v. bit_at v n) nil ∙ bit_at-zero n in omega (arith, one, zero))

  pub first-clear : free ≢ 0 → IsFirstClear starts size bit (count_trailing_zeros 64 free)
  first-clear some =
      let small : free < 2 ^ 64 = (let most = and_le_l (p * 2 ^ bit % 2 ^ 64) (bit_not w64 starts) in let less = mod_below (p * 2 ^ bit) (2 ^ 64) (pow_pos 64) in omega (arith, most, less)) in
      let found = bit_at-trailing_zeros w64 free (omega arith) small in
      record {
        found = of-free (count_trailing_zeros 64 free) found.0 found.1;
        first = λ m is. elim (cases_lt m (count_trailing_zeros 64 free)) as (λ _. count_trailing_zeros 64 free ≤ m) [
          | inr later ↦ later
          | inl before ↦ absurd (let one = to-free m is in let zero = found.2 m before in omega (arith, one, zero))
        ];
      }
