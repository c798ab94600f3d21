-- The lowest run of Free blocks.
use Rattle.std.specs.Prelude.{ℕ, ◌≤◌}
use Rattle.object_model.specs.Objects.{HeapState}
use Rattle.sessions.specs.Fitting.{IsFreeRun}

-- blocks k to k + n - 1 are the lowest run of n Free blocks
pub record IsFirstRun (s : HeapState) (k n : ℕ) : Type 0 where
  pub run : IsFreeRun s k n
  pub first : (j : ℕ) → IsFreeRun s j n → k ≤ j

-- there is no run of n Free blocks
abbrev pub HasNoRun : HeapState → ℕ → Type 0
HasNoRun s n = (k : ℕ) → IsFreeRun s k n → ⊥
