-- What a mutator has as an epoch begins.
use Rattle.std.specs.Prelude.{None, replicate}
use Rattle.local_allocators.specs.declared.local_seat.LocalSeat.{LocalSeat}
use Rattle.heap_layout.specs.declared.block.TheConstants.{CLASSES}

-- a seat without a ticket and blocks
abbrev pub empty_seat : LocalSeat
empty_seat = record { ticket = None; blocks = replicate CLASSES None; over = None }
