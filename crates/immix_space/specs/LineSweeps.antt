-- The sweep of an Immix block.
use Rattle.std.specs.Prelude.{◌≡◌, ℕ, ◌<◌, ◌↔◌, IsTrue}
use Rattle.heap_layout.specs.Zones.{block_at}
use Rattle.heap_layout.specs.declared.layout.TheConstants.{BLOCK_LINES}
use Rattle.heap_layout.specs.declared.block.Kind.TheVariants as kinds
use Rattle.heap_layout.specs.Blocks.{kind_code}
use Rattle.object_model.specs.Objects.{HeapState, block_word, line_marked}
use Rattle.object_model.specs.Lawful.{IsTouched}
use Rattle.object_model.specs.Ages.{Lives}
use Rattle.block_sweeps.specs.Sweeping.{InBlock, KeepsLiving, HasNoLiving, IsFreed, IsTouchedHere, IsMetadata}
use Rattle.block_sweeps.specs.Sweeping.{ChangesOnly}

-- Block k was swept. If nothing lives in it, it is Free; else it is an Immix block without an
-- owner. A line of it is marked if and only if an object that is left in the block touches the
-- line.
pub record SweepsLines (base : ℕ) (s s' : HeapState) (k : ℕ) : Type 0 where
  pub objects : KeepsLiving base (InBlock s k) s s'
  pub empty : HasNoLiving base s (InBlock s k) → IsFreed s' k
  pub word : (a : ℕ) → InBlock s k a → Lives base s a → block_word s' k ≡ kind_code kinds.Immix
  pub lines : (line : ℕ) → line < BLOCK_LINES → IsTrue (line_marked s' k line)
      ↔ ∥ IsTouchedHere s' k line ∥₁
  pub rest : ChangesOnly (IsMetadata s.blocks k) s s'

-- each held object that touches a line of block k begins in the block
abbrev pub IsTouchedFromWithin : HeapState → ℕ → Type 0
IsTouchedFromWithin s k = (line : ℕ) → line < BLOCK_LINES → (t : IsTouched s k line)
    → block_at s.blocks t.object ≡ k
