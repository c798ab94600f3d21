-- A word with one bit set or clear, and the row with it.
use Rattle.std.proofs.Common.{◌≡◌, ◌≢◌, ◌∙◌, ap, ℕ, ◌*◌, ◌-◌, ◌%◌, ◌^◌, ◌<◌, arith, List, length, slice_index, slice_set}
use Rattle.std.specs.Int.{bit_at, w64}
use Rattle.std.proofs.lemmas.List.{get_or-set_same, get_or-set_other}
use Rattle.std.proofs.lemmas.Nat.{or_lt, and_le_l, pow_below}
use Rattle.std.proofs.lemmas.Nat.Bits.{bit_at_or, bit_at_and, bit_at_not, bit_at-pow_same, bit_at-pow_other, bit_at-lt}
use Rattle.std.proofs.Math.ListN.{length-set}
use Rattle.side_meta.specs.BitWords.{with_bit, without_bit, ChangesBit}

pub with-same : (n k : ℕ) → bit_at (with_bit n k) k ≡ 1
with-same n k = omega (arith, bit_at_or n (2 ^ k) k, bit_at-pow_same k, bit_at-lt n k)

pub with-other : (n k i : ℕ) → i ≢ k → bit_at (with_bit n k) i ≡ bit_at n i
with-other n k i other = omega (arith, bit_at_or n (2 ^ k) i, bit_at-pow_other k i other)

pub with-fits : (n k : ℕ) → n < 2 ^ 64 → k < 64 → with_bit n k < 2 ^ 64
with-fits n k fits low = or_lt 64 n (2 ^ k) fits (pow_below k 64 low)

pub without-same : (n k : ℕ) → k < 64 → bit_at (without_bit n k) k ≡ 0
without-same n k low = omega (arith, bit_at_and n (2 ^ 64 - 1 - 2 ^ k) k, bit_at_not w64 (2 ^ k) k (pow_below k 64 low) low, bit_at-pow_same k)

pub without-other : (n k i : ℕ) → k < 64 → i < 64 → i ≢ k → bit_at (without_bit n k) i ≡ bit_at n i
without-other n k i low small other = omega (arith, bit_at_and n (2 ^ 64 - 1 - 2 ^ k) i, bit_at_not w64 (2 ^ k) i (pow_below k 64 low) small, bit_at-pow_other k i other, bit_at-lt n i)

pub without-fits : (n k : ℕ) → n < 2 ^ 64 → without_bit n k < 2 ^ 64
without-fits n k fits = let less = and_le_l n (2 ^ 64 - 1 - 2 ^ k) in omega arith

-- a shift within a word loses no bit
pub one-shifted : (k : ℕ) → k < 64 → 1 * 2 ^ k % 2 ^ 64 ≡ 2 ^ k
one-shifted k low = let below : 2 ^ k < 2 ^ 64 = pow_below k 64 low in omega arith

-- the row `new` has the word v at i, which differs from the old one in bit k alone
module _ (old new : List ℕ) (i k v : ℕ) (there : i < length old) (is : new ≡ slice_set old i v) where
  pub own-word : slice_index new i ≡ v
  own-word = ap (λ l. slice_index l i) is ∙ get_or-set_same old i v 0 there

  pub changes-bit : ((n : ℕ) → n < 64 → n ≢ k → bit_at v n ≡ bit_at (slice_index old i) n) → ChangesBit old new i k
  changes-bit others = record {
    len = ap length is ∙ length-set old i v;
    words = λ j other. ap (λ l. slice_index l j) is ∙ get_or-set_other old i j v 0 other;
    bits = λ n small other. ap (λ w. bit_at w n) own-word ∙ others n small other;
  }
