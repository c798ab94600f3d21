-- Words of a row.
use Rattle.core.specs.Prelude.{ℕ, ◌≡◌, ◌+◌, ◌<◌, ◌≤◌, ◌^◌, ◌⊎◌, List, slice_index}

-- each fits 64 bits
abbrev pub AllFit : List ℕ → Type 0
AllFit words = (i : ℕ) → slice_index words i < 2 ^ 64

-- the words from one index on are now at another index too, and the others are as they were
pub record IsCopied (old new : List ℕ) (from to count : ℕ) : Type 0 where
  pub copied : (i : ℕ) → i < count → slice_index new (to + i) ≡ slice_index old (from + i)
  pub others : (i : ℕ) → (i < to) ⊎ (to + count ≤ i) → slice_index new i ≡ slice_index old i
