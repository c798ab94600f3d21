-- A mutator's notes as an epoch begins.
use Rattle.std.specs.Prelude.{◌≡◌, ℕ, ◌+◌, None, false, replicate}
use Rattle.heap_layout.specs.declared.block.TheConstants.{CLASSES}
use Rattle.heap_layout.specs.declared.layout.TheConstants.{BLOCK_WORDS}
use Rattle.block_regions.specs.declared.block_notes.BlockNote.TheVariants.{Unowned}
use Rattle.local_allocators.specs.declared.local_seat.LocalSeat.{LocalSeat}
use Rattle.mutator_rule.specs.declared.seat_notes.SeatNotes.{SeatNotes}

-- no ticket, and no block
abbrev pub first_local_seat : LocalSeat
first_local_seat = record { ticket = None; blocks = replicate CLASSES None; over = None }

-- The mutator has no block and no ticket, logged nothing, and knows of each block that no hole is
-- larger than a block.
pub record AreFirstNotes (blocks allowance : ℕ) (n : SeatNotes) : Type 0 where
  pub flags : n.flags.items ≡ replicate blocks false
  pub blocks_noted : n.blocks.items ≡ replicate blocks (Unowned (BLOCK_WORDS + 1))
  pub local : n.local ≡ first_local_seat
  pub allowed : n.allowance ≡ allowance
