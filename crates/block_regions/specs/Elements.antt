-- One element of a list replaced.
use Rattle.std.specs.Prelude.{◌≡◌, ◌≢◌, ℕ, Some, List, length, slice_get}

-- From the one list to the other only the element at this place changed.
pub record ChangesAt {A : Type 0} (old new : List A) (at : ℕ) (x : A) : Type 0 where
  pub len : length new ≡ length old
  pub here : slice_get new at ≡ Some x
  pub others : (k : ℕ) → k ≢ at → slice_get new k ≡ slice_get old k
