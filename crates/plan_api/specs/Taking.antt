-- Heaps before and after mutators take Free blocks.
use Rattle.std.specs.Prelude.{◌≡◌, ◌≢◌, ℕ, ◌+◌, ◌<◌}
use Rattle.heap_layout.specs.declared.block.Kind.{Kind}
use Rattle.heap_layout.specs.declared.block.Kind.TheVariants as kinds
use Rattle.object_model.specs.Objects.{HeapState, block_word, HasKind}

-- block k was Free and is now of the kind `fill`; the words of the other blocks are unchanged
pub record FreeBlockIsTaken (fill : Kind) (old new : HeapState) (k : ℕ) : Type 0 where
  pub blocks : new.blocks ≡ old.blocks
  pub free : HasKind old k kinds.Free
  pub filled : HasKind new k fill
  pub others : (j : ℕ) → j < old.blocks → j ≢ k → block_word new j ≡ block_word old j

-- n Free blocks were taken, one after another
pub data TakesBlocks (fill : Kind) (old : HeapState) : HeapState → ℕ → Type 0 where
  none : {new : HeapState} → new.blocks ≡ old.blocks
      → ((j : ℕ) → j < old.blocks → block_word new j ≡ block_word old j)
      → TakesBlocks fill old new 0
  one_more : {mid new : HeapState} {n : ℕ} (k : ℕ) → TakesBlocks fill old mid n
      → FreeBlockIsTaken fill mid new k
      → TakesBlocks fill old new (n + 1)
