-- The room that one worker copies into, and the blocks that it took before.
use Rattle.std.specs.Prelude.{◌≡◌, ℕ, ◌+◌, ◌<◌, ◌≤◌, ◌⊎◌, false, IsTrue, List, [], ◌∷◌, Some, None, is_some}
use Rattle.heap_layout.specs.Zones.{block_start}
use Rattle.heap_layout.specs.declared.layout.TheConstants.{BLOCK_WORDS}
use Rattle.heap_layout.specs.declared.region.Region.{Region}
use Rattle.object_model.specs.Objects.{HeapState, HasKind}
use Rattle.trace_core.specs.Setups.{Setup, blocks, size, stays_old, may_be_moved}
use Rattle.trace_core.specs.Machine.{Machine, target}
use Rattle.object_model.specs.Times.{times}
use Rattle.heap_layout.specs.declared.block.Kind.TheVariants as kinds

-- the first words of the block, up to this offset, are words of targets
abbrev pub IsFilled : Setup → Machine → ℕ → ℕ → Type 0
IsFilled p m b offset = (o : ℕ) → o < offset
    → IsTrue (is_some (m.owner (block_start (blocks p) b + o)))

-- The room to copy into is the rest of the block that was taken last, behind its targets.
abbrev pub IsCopyRoom : Setup → Machine → List ℕ → ℕ → Region → Type 0
IsCopyRoom p m [] block room = room.next ≡ room.end
IsCopyRoom p m (b ∷ earlier) block room = (block ≡ b) × (room.end ≡ BLOCK_WORDS)
    × (room.next ≤ BLOCK_WORDS)
    × IsFilled p m b room.next
    × ((o : ℕ) → room.next ≤ o → o < BLOCK_WORDS → m.owner (block_start (blocks p) b + o) ≡ None)

-- Block b was left for an object that did not fit behind the targets in it, and that came first in
-- block `next`.
pub record IsLeftFor (p : Setup) (m : Machine) (b next : ℕ) : Type 0 where
  pub words : ℕ
  pub filled : IsFilled p m b words
  pub object : ℕ
  pub first : m.owner (block_start (blocks p) next) ≡ Some object
  pub no_room : BLOCK_WORDS < words + size p object

-- These blocks, the last one first, were taken in rising order. Each but the last is one of the
-- sparse ones, or was left for the first object of the next one.
abbrev pub AreLeft : Setup → Machine → List ℕ → List ℕ → Type 0
AreLeft p m sparse [] = Unit {0}
AreLeft p m sparse (b ∷ []) = Unit {0}
AreLeft p m sparse (next ∷ b ∷ earlier) = (b < next) × ((0 < times b sparse) ⊎ IsLeftFor p m b next)
    × AreLeft p m sparse (b ∷ earlier)

-- An object that may move and is in place had no room.
abbrev pub StayWithoutRoom : Setup → Machine → Region → Type 0
StayWithoutRoom p m room = (x : ℕ) → target (m.stage x) ≡ Some x → stays_old p x ≡ false
    → IsTrue (may_be_moved p x) → room.end < room.next + size p x

-- no block of the heap is Free
abbrev pub NoneFree : HeapState → Type 0
NoneFree s = (b : ℕ) → HasKind s b kinds.Free → ⊥
