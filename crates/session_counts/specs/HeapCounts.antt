-- What the objects of a list leave of a heap.
use Rattle.std.specs.Prelude.{◌≡◌, ℕ, ◌+◌, ◌-◌, ◌≤◌, Bool, ◌&&◌, List, [], ◌∷◌, length, nat_le, nat_lt}
use Rattle.std.specs.List.{AllByRecursion, count_by, list_any, range_with_len, sum_by}
use Rattle.heap_layout.specs.Zones.{block_at}
use Rattle.heap_layout.specs.declared.block.Kind.TheVariants as kinds
use Rattle.object_model.specs.Counting.{count_words_at, held_in, kind_count}
use Rattle.object_model.specs.Objects.{HeapState, size_at}
use Rattle.sessions.specs.Fitting.{large_of}
use Rattle.session_counts.specs.Sizes.{AreSizes, own_blocks, shared_blocks}

-- no address is in the list twice
abbrev pub Distinct : List ℕ → Type 0
Distinct [] = Unit {0}
Distinct (x ∷ xs) = AllByRecursion (λ y. x ≡ y → ⊥) xs × Distinct xs

-- the small or medium object at a lies in block k
abbrev pub lies_in_block : HeapState → ℕ → ℕ → Bool
lies_in_block s k a = nat_le (block_at s.blocks a) k
    && nat_lt k (block_at s.blocks a + shared_blocks (size_at s a))

-- how many blocks have small or medium objects of the list
abbrev pub shared_in : HeapState → List ℕ → ℕ
shared_in s xs =
    count_by (λ k. list_any (lies_in_block s k) xs) (range_with_len 0 s.blocks)

-- how many blocks the large objects of the list have
abbrev pub own_in : HeapState → List ℕ → ℕ
own_in s xs = sum_by (λ a. own_blocks (size_at s a)) xs

-- The held objects are those of the list and others. The sizes of these fill the blocks that those
-- of the list leave.
pub record HasOtherSizes (s : HeapState) (xs : List ℕ) : Type 0 where
  pub objects : length xs ≤ length (held_in s)
  pub words : count_words_at s xs ≤ count_words_at s (held_in s)
  pub large : own_in s xs ≤ large_of s
  pub sizes : List ℕ
  pub are : AreSizes (length (held_in s) - length xs)
      (count_words_at s (held_in s) - count_words_at s xs) (large_of s - own_in s xs)
      (s.blocks - kind_count s kinds.Free - large_of s - shared_in s xs) sizes
