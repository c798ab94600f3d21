-- A seat whose blocks have notes, and its regions.
use Rattle.std.specs.Prelude.{◌≡◌, ℕ, ◌<◌, Some, List, length, slice_get}
use Rattle.heap_layout.specs.declared.block.Kind.{Kind}
use Rattle.block_regions.specs.declared.block_notes.BlockNote.{BlockNote}
use Rattle.local_allocators.specs.declared.local_seat.LocalSeat.{LocalSeat}
use Rattle.heap_layout.specs.declared.block.TheConstants.{CLASSES}
use Rattle.local_allocators.specs.MutatorRegions.{MutatorRegions, FillsLines}
use Rattle.local_allocators.specs.NotedRegions.{regions_of}

-- Each block that the mutator of the seat allocates in has a note.
pub record HasNotedBlocks (fill : Kind) (notes : List BlockNote) (x : LocalSeat) : Type 0 where
  pub classes : length x.blocks ≡ CLASSES
  pub blocks : (class k : ℕ) → slice_get x.blocks class ≡ Some (Some k) → k < length notes
  pub over : (k : ℕ) → FillsLines fill → x.over ≡ Some k → k < length notes

-- the regions of the mutator of the seat
abbrev pub regions_in : List BlockNote → LocalSeat → MutatorRegions
regions_in notes x = regions_of notes (Some x)
