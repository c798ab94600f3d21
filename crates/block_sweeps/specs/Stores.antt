-- Stores into a row of words: of one word, and of a run of words.
use Rattle.std.specs.Prelude.{◌≡◌, ℕ, ◌<◌, ◌≤◌, ◌^◌, List, length, slice_index}

-- the word at this index is `value`, and the other words are as before
pub record Stores (old new : List ℕ) (index value : ℕ) : Type 0 where
  pub extent : length new ≡ length old
  pub own : slice_index new index ≡ value
  pub others : (i : ℕ) → (i ≡ index → ⊥) → slice_index new i ≡ slice_index old i
  pub fit : ((i : ℕ) → slice_index old i < 2 ^ 64) → (i : ℕ) → slice_index new i < 2 ^ 64

-- word i is `value i` from index `from` on, below index `to`, and the other words are as before
pub record Fills (old new : List ℕ) (from to : ℕ) (value : ℕ → ℕ) : Type 0 where
  pub extent : length new ≡ length old
  pub own : (i : ℕ) → from ≤ i → i < to → slice_index new i ≡ value i
  pub others : (i : ℕ) → ((from ≤ i) × (i < to) → ⊥) → slice_index new i ≡ slice_index old i
  pub fit : ((i : ℕ) → slice_index old i < 2 ^ 64) → (i : ℕ) → slice_index new i < 2 ^ 64
