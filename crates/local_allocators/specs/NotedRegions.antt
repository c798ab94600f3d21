-- The regions of a mutator by its seat and the notes on blocks.
use Rattle.std.specs.Prelude.{ℕ, Option, Some, None, List, slice_get}
use Rattle.heap_layout.specs.declared.region.Region.{Region}
use Rattle.local_allocators.specs.declared.local_seat.LocalSeat.{LocalSeat}
use Rattle.block_regions.specs.declared.block_notes.BlockNote.{BlockNote}
use Rattle.block_regions.specs.declared.block_notes.BlockNote.TheVariants.{Unowned, Owned}
use Rattle.local_allocators.specs.Seats.{block_of, over_of}
use Rattle.local_allocators.specs.MutatorRegions.{MutatorRegions}

-- no words
abbrev pub nowhere : Region
nowhere = record { next = 0; end = 0 }

-- the region that a note has, or no words if nobody owns the block
abbrev pub region_noted : Option BlockNote → Region
region_noted None = nowhere
region_noted (Some (Unowned least)) = nowhere
region_noted (Some (Owned owner region)) = region

-- the region of a block, or no words if there is no block
abbrev pub region_of : List BlockNote → Option ℕ → Region
region_of notes None = nowhere
region_of notes (Some k) = region_noted (slice_get notes k)

-- the regions of the mutator of a seat
abbrev pub regions_of : List BlockNote → Option LocalSeat → MutatorRegions
regions_of notes seat = record {
  blocks = λ class. block_of seat class;
  over = over_of seat;
  left = λ block. region_of notes block;
}
