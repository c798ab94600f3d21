-- Free cells of a block, at or after an offset.
use Rattle.std.specs.Prelude.{ℕ, ◌≤◌}
use Rattle.object_model.specs.Objects.{HeapState}
use Rattle.sessions.specs.Fitting.{IsFreeCell}

-- the first free cell of block k that begins at or after the offset `from` begins at offset `at`
pub record IsNextCell (s : HeapState) (k from at : ℕ) : Type 0 where
  pub cell : IsFreeCell s k at
  pub after : from ≤ at
  pub first : (x : ℕ) → from ≤ x → IsFreeCell s k x → at ≤ x

-- no free cell of block k begins at or after the offset `from`
abbrev pub HasNoCell : HeapState → ℕ → ℕ → Type 0
HasNoCell s k from = (x : ℕ) → from ≤ x → IsFreeCell s k x → ⊥
