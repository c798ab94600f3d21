-- Blocks that are read of a seat.
use Rattle.std.proofs.Common.{◌≡◌, refl, ap, ℕ, zero, suc, List, [], ◌∷◌, get_or}
use Rattle.std.specs.Prelude.{Option, Some, None, slice_get, unwrap_or}

-- an option that is read of a list
pub option-read : {A : Type 0} (xs : List (Option A)) (k : ℕ) → unwrap_or (slice_get xs k) None ≡ get_or xs k None
option-read [] k = refl
option-read (y ∷ ys) zero = refl
option-read (y ∷ ys) (suc k) = option-read ys k

-- a block that is read is there
pub block-there : (xs : List (Option ℕ)) (k b : ℕ) → get_or xs k None ≡ Some b → slice_get xs k ≡ Some (Some b)
block-there [] k b is = let wrong : None ≡ Some b = is in cc
block-there (y ∷ ys) zero b is = ap (λ (o : Option ℕ). Some o) is
block-there (y ∷ ys) (suc k) b is = block-there ys k b is
