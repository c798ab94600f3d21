-- Bits of a word, and words with one bit set or clear.
use Rattle.std.specs.Prelude.{◌≡◌, ◌≢◌, ℕ, ◌-◌, ◌^◌, ◌<◌, Bool, List, length, slice_index, nat_eq, bit_or, bit_and}
use Rattle.std.specs.Int.{bit_at}
use Rattle.side_meta.specs.declared.word.TheConstants.{BITS_PER_WORD}

-- bit k of a word is set
abbrev pub has_bit : ℕ → ℕ → Bool
has_bit word k = nat_eq (bit_at word k) 1

-- the word with bit k set, or clear
abbrev pub with_bit : ℕ → ℕ → ℕ
with_bit word k = bit_or word (2 ^ k)

abbrev pub without_bit : ℕ → ℕ → ℕ
without_bit word k = bit_and word (2 ^ 64 - 1 - 2 ^ k)

-- Only bit k of word i changed.
pub record ChangesBit (old new : List ℕ) (i k : ℕ) : Type 0 where
  pub len : length new ≡ length old
  pub words : (j : ℕ) → j ≢ i → slice_index new j ≡ slice_index old j
  pub bits : (n : ℕ) → n < BITS_PER_WORD → n ≢ k
      → bit_at (slice_index new i) n ≡ bit_at (slice_index old i) n
