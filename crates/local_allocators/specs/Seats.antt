-- The parts of a mutator's seat, if it has one.
use Rattle.std.specs.Prelude.{ℕ, Option, Some, None, List, [], unwrap_or, slice_get}
use Rattle.local_allocators.specs.declared.local_seat.LocalSeat.{LocalSeat}

abbrev pub ticket_of : Option LocalSeat → Option ℕ
ticket_of None = None
ticket_of (Some x) = x.ticket

-- by class, the block that the mutator of a seat allocates in
abbrev pub blocks_of : Option LocalSeat → List (Option ℕ)
blocks_of None = []
blocks_of (Some x) = x.blocks

-- the block of its overflow region
abbrev pub over_of : Option LocalSeat → Option ℕ
over_of None = None
over_of (Some x) = x.over

-- the block for this class
abbrev pub block_of : Option LocalSeat → ℕ → Option ℕ
block_of seat class = unwrap_or (slice_get (blocks_of seat) class) None
