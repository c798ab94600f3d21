-- Free cells, by the start bits of a block.
use Rattle.heap_layout.specs.declared.layout.TheConstants.{BLOCK_WORDS}
use Rattle.std.specs.Prelude.{◌≡◌, ℕ, ◌+◌, ◌*◌, ◌≤◌, List, false}
use Rattle.line_marks.specs.Bits.{bit_in}

-- a cell of `words` words begins at the offset `at`, and no object begins there
pub record IsClearCell (starts : List ℕ) (words at : ℕ) : Type 0 where
  pub index : ℕ
  pub start : at ≡ index * words
  pub inside : at + words ≤ BLOCK_WORDS
  pub clear : bit_in starts at ≡ false

-- the first such cell that begins at or after the offset `from`
pub record IsFirstCell (starts : List ℕ) (words from at : ℕ) : Type 0 where
  pub cell : IsClearCell starts words at
  pub after : from ≤ at
  pub first : (x : ℕ) → from ≤ x → IsClearCell starts words x → at ≤ x

-- no such cell begins at or after the offset `from`
abbrev pub HasNoClearCell : List ℕ → ℕ → ℕ → Type 0
HasNoClearCell starts words from = (x : ℕ) → from ≤ x → IsClearCell starts words x → ⊥
