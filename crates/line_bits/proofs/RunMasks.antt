-- A word with a run of bits set, made by two shifts of a word of ones.
use Rattle.std.proofs.Common.{◌≡◌, ℕ, ◌+◌, ◌*◌, ◌-◌, ◌/◌, ◌%◌, ◌^◌, ◌<◌, ◌≤◌, inl, inr, ap, ◌∙◌, bit_and, min, arith}
use Rattle.line_bits.specs.LineMarks.{IsFromTo}
use Rattle.std.specs.Int.{bit_at}
use Rattle.std.proofs.lemmas.Bool.{cases_lt}
use Rattle.std.proofs.lemmas.Nat.Bits.{bit_at_and, bit_at_ones, bit_at_ones_above, bit_at_mask_inside, bit_at_mask_below, ones_shl, ones_shr}

module _ (low high : ℕ) (rising : low ≤ high) (within : high < 64) where
  abbrev mask : ℕ
  mask = bit_and ((2 ^ 64 - 1) * 2 ^ low % 2 ^ 64) ((2 ^ 64 - 1) / 2 ^ (63 - high))

  parts : (k : ℕ) → bit_at mask k ≡ min (bit_at (2 ^ 64 - 2 ^ low) k) (bit_at (2 ^ (high + 1) - 1) k)
  parts k =
      let left : 64 - (63 - high) ≡ high + 1 = omega arith in
      ap (λ n. bit_at (bit_and n ((2 ^ 64 - 1) / 2 ^ (63 - high))) k) (ones_shl 64 low (omega arith))
      ∙ ap (λ n. bit_at (bit_and (2 ^ 64 - 2 ^ low) n) k) (ones_shr 64 (63 - high) (omega arith) ∙ ap (λ n. 2 ^ n - 1) left)
      ∙ bit_at_and (2 ^ 64 - 2 ^ low) (2 ^ (high + 1) - 1) k

  pub inside : (k : ℕ) → IsFromTo low high k → bit_at mask k ≡ 1
  inside k among =
      let from : low ≤ k = among.after in let to : k ≤ high = among.most in
      omega (arith, parts k, bit_at_mask_inside low 64 k from (omega arith), bit_at_ones (high + 1) k (omega arith))

  pub only : (k : ℕ) → bit_at mask k ≡ 1 → IsFromTo low high k
  only k set = record {
    after = elim (cases_lt k low) as (λ _. low ≤ k) [
      | inl below ↦ absurd (omega (arith, parts k, bit_at_mask_below low 64 k below))
      | inr from ↦ from
    ];
    most = elim (cases_lt high k) as (λ _. k ≤ high) [
      | inl above ↦ absurd (omega (arith, parts k, bit_at_ones_above (high + 1) k (omega arith)))
      | inr to ↦ to
    ];
  }
