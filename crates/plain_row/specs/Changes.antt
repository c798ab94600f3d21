-- What single changes of the row leave as it was.
use Rattle.std.specs.Prelude.{◌≡◌, ◌≢◌, ℕ, ◌+◌, ◌<◌, ◌≤◌, ◌⊎◌, Bool, true, false, Some, None, Option, [], ◌∷◌, ◌++◌}
use Rattle.std.specs.Prelude.{slice_get, slice_set, vec_capacity}
use Rattle.heap_layout.specs.Zones.{first, BlockWords, block_start}
use Rattle.heap_layout.specs.Blocks.{code_of}
use Rattle.heap_layout.specs.declared.region.Region.{Region}
use Rattle.ideal_heap.specs.declared.name.Name.{Name}
use Rattle.ideal_heap.specs.Names.{name}
use Rattle.object_model.specs.Objects.{state_of, with_words, HasKind, class_at, size_of}
use Rattle.sessions.specs.Fitting.{class_for}
use Rattle.object_model.specs.Changes.{WritesObject}
use Rattle.mutator_calls.specs.declared.need.Mutator.{Mutator}
use Rattle.plain_row.specs.declared.plain_row.PlainRow.{PlainRow}
use Rattle.block_regions.specs.Regions.{IsRestAfter}
use Rattle.plan_api.specs.Holes.{IsFirstHole}
use Rattle.block_regions.specs.declared.block_notes.BlockNote.{BlockNote}
use Rattle.block_regions.specs.declared.block_notes.BlockNote.TheVariants.{Unowned, Owned}
use Rattle.local_allocators.specs.declared.local_seat.LocalSeat.{LocalSeat}
use Rattle.plain_row.specs.Rows.{mutator_at_turn, seat_at_turn, number_at_turn, regions_at_turn}
use Rattle.local_allocators.specs.Seats.{ticket_of, blocks_of, block_of, over_of}
use Rattle.block_regions.specs.Elements.{ChangesAt}
use Rattle.local_allocators.specs.MutatorRegions.{FillsLines, IsBlockFor, LacksLines}

-- the word at this index becomes v; all else stays
pub record StoresWord (old new : PlainRow) (at v : ℕ) : Type 0 where
  pub rest : new ≡ record old { row = new.row }
  pub words : state_of new.row ≡ with_words (state_of old.row)
      (slice_set (state_of old.row).words at v)

-- the flag of this block becomes set; all else stays
pub record SetsFlag (old new : PlainRow) (block : ℕ) : Type 0 where
  pub rest : new ≡ record old { flags = new.flags }
  pub flags : new.flags.items ≡ slice_set old.flags.items block true

-- whose turn it is, the plan's kind and ages, the allowance, the counts and the flags stay
pub record KeepsPlan (old new : PlainRow) : Type 0 where
  pub turn : new.turn ≡ old.turn
  pub fill : new.fill ≡ old.fill
  pub young : new.young ≡ old.young
  pub allowance : new.allowance ≡ old.allowance
  pub counts : new.counts ≡ old.counts
  pub flags : new.flags ≡ old.flags

-- The seat with this ticket, whose mutator allocates objects of the class in the block; or, in
-- overflow allocation, has its overflow region there.
abbrev pub seat_with : Bool → Option LocalSeat → ℕ → ℕ → Option ℕ → LocalSeat
seat_with false seat class block ticket = record {
  ticket = ticket;
  blocks = slice_set (blocks_of seat) class (Some block);
  over = over_of seat;
}
seat_with true seat class block ticket =
    record { ticket = ticket; blocks = blocks_of seat; over = Some block }

-- The mutator takes the block for objects of the class, or for its overflow region: it becomes its
-- owner and allocates them in the region of the block. It has this ticket then.
pub record OwnsBlock (old new : PlainRow) (over : Bool) (block class : ℕ) (region : Region)
    (ticket : Option ℕ) : Type 0 where
  pub plan : KeepsPlan old new
  pub mutators : new.mutators ≡ old.mutators
  pub words : state_of new.row ≡ with_words (state_of old.row) (slice_set (state_of old.row).words
      (first (state_of old.row).blocks BlockWords + block)
      (code_of (record { kind = old.fill; class = class; owner = number_at_turn old })))
  pub notes : ChangesAt old.notes.items new.notes.items block (Owned (number_at_turn old) region)
  pub owned : new.owned.items ≡ old.owned.items ++ block ∷ []
  pub room : vec_capacity new.owned ≡ vec_capacity old.owned
  pub seats : ChangesAt old.seats.items new.seats.items old.turn
      (seat_with over (seat_at_turn old) class block ticket)

-- the note of the block becomes this one; all else stays
pub record NotesBlock (old new : PlainRow) (block : ℕ) (note : BlockNote) : Type 0 where
  pub plan : KeepsPlan old new
  pub mutators : new.mutators ≡ old.mutators
  pub row : new.row ≡ old.row
  pub seats : new.seats ≡ old.seats
  pub notes : ChangesAt old.notes.items new.notes.items block note
  pub owned : new.owned ≡ old.owned

-- the mutator allocates objects of the class in this block of its own; all else stays
pub record ReturnsTo (old new : PlainRow) (block class : ℕ) : Type 0 where
  pub plan : KeepsPlan old new
  pub mutators : new.mutators ≡ old.mutators
  pub row : new.row ≡ old.row
  pub notes : new.notes ≡ old.notes
  pub owned : new.owned ≡ old.owned
  pub seats : ChangesAt old.seats.items new.seats.items old.turn
      (record {
        ticket = ticket_of (seat_at_turn old);
        blocks = slice_set (blocks_of (seat_at_turn old)) class (Some block);
        over = over_of (seat_at_turn old);
      })

-- The block has room for the size that the mutator may fill, and becomes the one that it allocates
-- in. The block is its own already, or nobody owned it. Under a plan with lines an own block is
-- that of the hole region: a later hole of it becomes this region.
pub data FindsHole (old new : PlainRow) (block size : ℕ) : Type 0 where
  own : (region : Region)
      → slice_get old.notes.items block ≡ Some (Owned (number_at_turn old) region)
      → (FillsLines old.fill → ⊥) → class_at (state_of old.row) block ≡ class_for old.fill size
      → region.next + size ≤ region.end
      → ReturnsTo old new block (class_for old.fill size) → FindsHole old new block size
  next_hole : (region hole : Region)
      → slice_get old.notes.items block ≡ Some (Owned (number_at_turn old) region)
      → FillsLines old.fill
      → block_of (seat_at_turn old) 0 ≡ Some block → region.end < region.next + size
      → IsFirstHole old.fill (state_of old.row) block region.end size (Some hole)
      → NotesBlock old new block (Owned (number_at_turn old) hole) → FindsHole old new block size
  taken : (least : ℕ) (region : Region) → slice_get old.notes.items block ≡ Some (Unowned least)
      → IsFirstHole old.fill (state_of old.row) block 0 size (Some region)
      → OwnsBlock old new false block (class_for old.fill size) region
      (ticket_of (seat_at_turn old))
      → FindsHole old new block size

-- The block has no such room. At most its note changes, if it lacks holes for all greater sizes
-- too.
pub data LacksHole (old new : PlainRow) (block size : ℕ) : Type 0 where
  known : (least : ℕ) → slice_get old.notes.items block ≡ Some (Unowned least) → least ≤ size
      → new ≡ old
      → LacksHole old new block size
  seen : (least : ℕ) → slice_get old.notes.items block ≡ Some (Unowned least)
      → IsFirstHole old.fill (state_of old.row) block 0 size None
      → (HasKind (state_of old.row) block old.fill
      → class_at (state_of old.row) block ≡ class_for old.fill size)
      → NotesBlock old new block (Unowned size) → LacksHole old new block size
  unsuited : (least : ℕ) → slice_get old.notes.items block ≡ Some (Unowned least)
      → class_at (state_of old.row) block ≢ class_for old.fill size → new ≡ old
      → LacksHole old new block size
  foreign : (owner : ℕ) (region : Region)
      → slice_get old.notes.items block ≡ Some (Owned owner region)
      → (owner ≢ number_at_turn old)
      ⊎ ((FillsLines old.fill → ⊥) × ((region.end < region.next + size)
      ⊎ (class_at (state_of old.row) block ≢ class_for old.fill size))) → new ≡ old
      → LacksHole old new block size
  lacks_lines : (region : Region)
      → slice_get old.notes.items block ≡ Some (Owned (number_at_turn old) region)
      → FillsLines old.fill
      → LacksLines (regions_at_turn old) (state_of old.row) size block → new ≡ old
      → LacksHole old new block size

-- The mutator's region for objects of this size, in this block, becomes what such an object at its
-- start leaves. It began at the offset. All else stays.
pub record Advances (old new : PlainRow) (size block offset : ℕ) : Type 0 where
  pub plan : KeepsPlan old new
  pub mutators : new.mutators ≡ old.mutators
  pub row : new.row ≡ old.row
  pub seats : new.seats ≡ old.seats
  pub current : IsBlockFor old.fill (regions_at_turn old) size block
  pub region : Region
  pub rest : Region
  pub was : slice_get old.notes.items block ≡ Some (Owned (number_at_turn old) region)
  pub begins : region.next ≡ offset
  pub room : region.next + size ≤ region.end
  pub owned : new.owned ≡ old.owned
  pub left : IsRestAfter old.fill (state_of old.row) block size region rest
  pub notes : ChangesAt old.notes.items new.notes.items block (Owned (number_at_turn old) rest)

-- The mutator has one object more, of this name, whose address is in register d. All else stays.
pub record CountsObject (old new : PlainRow) (d address : ℕ) (n : Name) : Type 0 where
  pub plan : KeepsPlan old new
  pub row : new.row ≡ old.row
  pub seats : new.seats ≡ old.seats
  pub notes : new.notes ≡ old.notes
  pub owned : new.owned ≡ old.owned
  pub mutator : Mutator
  pub was : mutator_at_turn old ≡ Some mutator
  pub mutators : ChangesAt old.mutators.items new.mutators.items old.turn (record mutator {
    births = mutator.births + 1;
    registers = slice_set mutator.registers d address;
  })
  pub named : n ≡ name mutator.number (mutator.births + 1)

-- The mutator allocates an object at the start of its region for objects of this size.
pub record AllocatesInRow (old new : PlainRow) (d : ℕ) (n : Name) (refs nums : ℕ) : Type 0 where
  pub block : ℕ
  pub offset : ℕ
  pub advanced : PlainRow
  pub counted : PlainRow
  pub region : Advances old advanced (size_of refs nums) block offset
  pub count : CountsObject advanced counted d (block_start (state_of old.row).blocks block + offset)
      n
  pub rest : new ≡ record counted { row = new.row }
  pub object : WritesObject (state_of counted.row) (state_of new.row)
      (block_start (state_of old.row).blocks block + offset) n refs nums
