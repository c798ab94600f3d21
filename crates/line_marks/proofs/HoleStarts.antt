-- The clear bits of a word that come after a set bit.
use Rattle.std.proofs.Common.{◌≡◌, sym, ◌∙◌, ap, ℕ, zero, suc, ◌+◌, ◌*◌, ◌-◌, ◌/◌, ◌%◌, ◌^◌, ◌<◌, min, max, w64, bit_and, bit_or, arith, refl, not, nat_eq}
use Rattle.side_meta.specs.BitWords.{has_bit}
use Rattle.std.specs.Prelude.{◌&&◌}
use Rattle.std.specs.Int.{bit_at}
use Rattle.std.proofs.lemmas.Nat.Bits.{bit_at-lt, bit_at-suc, bit_at_lowest, bit_at_and, bit_at_or, bit_at_not, bit_at_above, bit_at_cat_low}

-- a bit that is the first one clear and the second one set
both : (a b : ℕ) → a < 2 → b < 2 → nat_eq (min (1 - a) b) 1 ≡ (not (nat_eq a 1) && nat_eq b 1)
both zero zero _ _ = refl
both zero (suc zero) _ _ = refl
both (suc zero) zero _ _ = refl
both (suc zero) (suc zero) _ _ = refl
both zero (suc (suc b)) low high = absurd (omega arith)
both (suc zero) (suc (suc b)) low high = absurd (omega arith)
both (suc (suc a)) b low high = absurd (omega arith)

-- a word moved up by one bit, without its last
module _ (word : ℕ) (fits : word < 2 ^ 64) where
  abbrev moved : ℕ
  moved = word * 2 % 2 ^ 64

  moved-low : bit_at moved 0 ≡ 0
  moved-low = (let low = bit_at_lowest moved in omega arith)

  half : moved / 2 ≡ word % 2 ^ 63
  half = omega arith

  moved-other : (j : ℕ) → suc j < 64 → bit_at moved (suc j) ≡ bit_at word j
  moved-other j small = bit_at-suc moved j ∙ ap (λ n. bit_at n j) half ∙ below-top j (omega arith)
    where
      below-top : (j : ℕ) → j < 63 → bit_at (word % 2 ^ 63) j ≡ bit_at word j
      below-top j small = sym (bit_at_cat_low (word / 2 ^ 63) 63 (word % 2 ^ 63) j small) ∙ ap (λ n. bit_at n j) (let e : word / 2 ^ 63 * 2 ^ 63 + word % 2 ^ 63 ≡ word = omega arith in e)

  module _ (before : ℕ) (one : before < 2) where
    abbrev starts : ℕ
    starts = bit_and (2 ^ 64 - 1 - word) (bit_or moved before)

    parts : (j : ℕ) → j < 64 → bit_at starts j ≡ min (1 - bit_at word j) (max (bit_at moved j) (bit_at before j))
    parts j small = bit_at_and (2 ^ 64 - 1 - word) (bit_or moved before) j
        ∙ ap (λ b. min b (bit_at (bit_or moved before) j)) (bit_at_not w64 word j fits small)
        ∙ ap (min (1 - bit_at word j)) (bit_at_or moved before j)

    pub lowest : has_bit starts 0 ≡ (not (has_bit word 0) && nat_eq before 1)
    lowest =
        let own : bit_at before 0 ≡ before = bit_at_lowest before ∙ (let e : before % 2 ≡ before = omega arith in e) in
        let low = moved-low in
        let last : max (bit_at moved 0) (bit_at before 0) ≡ before = omega arith in
        ap (λ n. nat_eq n 1) (parts 0 (omega arith) ∙ ap (min (1 - bit_at word 0)) last) ∙ both (bit_at word 0) before (bit_at-lt word 0) one

    pub others : (j : ℕ) → 0 < j → j < 64 → has_bit starts j ≡ (not (has_bit word j) && has_bit word (j - 1))
    others (suc j) some small =
        let nil : bit_at before (suc j) ≡ 0 = bit_at_above before 1 (suc j) one (omega arith) in
        let bit = moved-other j small in
        let same : j ≡ suc j - 1 = omega arith in
        let last : max (bit_at moved (suc j)) (bit_at before (suc j)) ≡ bit_at word (suc j - 1) = (let e : max (bit_at moved (suc j)) (bit_at before (suc j)) ≡ bit_at word j = omega arith in e ∙ ap (bit_at word) same) in
        ap (λ n. nat_eq n 1) (parts (suc j) small ∙ ap (min (1 - bit_at word (suc j))) last)
        ∙ both (bit_at word (suc j)) (bit_at word (suc j - 1)) (bit_at-lt word (suc j)) (bit_at-lt word (suc j - 1))
    others zero some small = absurd (omega arith)

pub top-bit : (word : ℕ) → word < 2 ^ 64 → word / 2 ^ 63 ≡ bit_at word 63
top-bit word fits = omega arith
