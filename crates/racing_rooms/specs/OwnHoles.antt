-- What a mutator sees of the words of its own blocks past the objects that it allocated.
use Rattle.std.specs.Prelude.{◌≡◌, ℕ, ◌+◌, ◌*◌, ◌<◌, ◌≤◌, false, Some, List, slice_get}
use Rattle.std.specs.List.{Contains}
use Rattle.heap_layout.specs.Zones.{block_start}
use Rattle.heap_layout.specs.declared.layout.TheConstants.{BLOCK_WORDS}
use Rattle.heap_layout.specs.declared.region.Region.{Region}
use Rattle.object_model.specs.Objects.{cell_words, is_start}
use Rattle.sessions.specs.Fitting.{class_for}
use Rattle.block_regions.specs.declared.block_notes.BlockNote.{BlockNote}
use Rattle.block_regions.specs.declared.block_notes.BlockNote.TheVariants.{Owned}
use Rattle.mutator_core.specs.declared.state.Local.{Local}
use Rattle.mutator_core.specs.Machine.{Epoch}
use Rattle.mutator_core.specs.Guards.{HasSeenStart}
use Rattle.racing_rooms.specs.Rooms.{Holdings}

-- the mutator saw the start bit of an object in each cell of block k from one offset up to another
abbrev pub HasSeenTaken : Epoch → Local → ℕ → ℕ → ℕ → ℕ → Type 0
HasSeenTaken p l k class from upto = (index : ℕ) → from ≤ index * cell_words class
    → index * cell_words class < upto → index * cell_words class + cell_words class ≤ BLOCK_WORDS
    → HasSeenStart p l (block_start p.before.blocks k + index * cell_words class)

-- The region is the first cell of block k at or after the offset `from` that had no object as the
-- epoch began, or has no words if there is none. The mutator saw an object in each cell before it.
pub data IsNextCell (p : Epoch) (l : Local) (k class from : ℕ) (region : Region) : Type 0 where
  cell : (index : ℕ) → region.next ≡ index * cell_words class
      → region.end ≡ region.next + cell_words class → region.end ≤ BLOCK_WORDS
      → from ≤ region.next
      → is_start p.before (block_start p.before.blocks k + region.next) ≡ false
      → HasSeenTaken p l k class from region.next → IsNextCell p l k class from region
  none : region.next ≡ BLOCK_WORDS → region.end ≡ BLOCK_WORDS
      → HasSeenTaken p l k class from BLOCK_WORDS → IsNextCell p l k class from region

-- if the mutator took block k for the size's class, what is left of it has no room for the size
abbrev pub LacksLeft : Epoch → Holdings → List BlockNote → ℕ → ℕ → Type 0
LacksLeft p h notes k size = (owner : ℕ) (region : Region)
    → slice_get notes k ≡ Some (Owned owner region)
    → Contains h.owned (record { block = k; class = class_for p.rules.fill size })
    → region.end < region.next + size
