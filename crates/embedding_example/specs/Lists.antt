-- What the registers of the builder hold.
use Rattle.std.specs.Prelude.{◌≡◌, ℕ, ◌+◌, suc, zero, List, [], ◌∷◌, Option, None, Some}
use Rattle.ideal_heap.specs.Ideal.{IdealHeap}
use Rattle.programs.specs.Contents.{number_of}
use Rattle.programs.specs.Lists.{IsList}
use Rattle.embedding_example.specs.declared.TheConstants.{BUILDER, LIST, REVERSED, ARRAY, LAST_INDEX, LAST_NUMBER}

-- the first number of a list
abbrev pub first_of : List ℕ → Option ℕ
first_of [] = None
first_of (x ∷ xs) = Some x

-- n, n - 1, and so on to 1
abbrev pub numbers_down_from : ℕ → List ℕ
numbers_down_from zero = []
numbers_down_from (suc n) = suc n ∷ numbers_down_from n

-- The builder has the list xs, the reversed list ys, and the array with its last number.
pub record HoldsLists (xs ys : List ℕ) (i : IdealHeap) : Type 0 where
  pub list : IsList i (BUILDER + 1) LIST xs
  pub reversed : IsList i (BUILDER + 1) REVERSED ys
  pub array : number_of i (BUILDER + 1) ARRAY LAST_INDEX ≡ Some LAST_NUMBER
