-- What a mutator has for allocation, and what its notes say of that. Room depends on the heap as the
-- epoch began and on the mutator's own objects, so no step of another mutator changes it.
use Rattle.std.specs.Prelude.{◌≡◌, ◌≢◌, ℕ, ◌+◌, ◌*◌, ◌<◌, ◌≤◌, ◌⊎◌, IsTrue, Option, Some, List, length, slice_get, ◌∷◌}
use Rattle.std.specs.List.{Contains}
use Rattle.heap_layout.specs.Zones.{block_at, block_start}
use Rattle.heap_layout.specs.declared.block.Kind.{Kind}
use Rattle.heap_layout.specs.declared.block.Kind.TheVariants as kinds
use Rattle.heap_layout.specs.declared.block.TheConstants.{CLASSES}
use Rattle.heap_layout.specs.declared.layout.TheConstants.{BLOCK_LINES, BLOCK_WORDS, LINE_WORDS}
use Rattle.heap_layout.specs.declared.region.Region.{Region}
use Rattle.object_model.specs.Objects.{HeapState, HasKind, owner_at, cell_words, line_marked, IsHeld}
use Rattle.sessions.specs.Fitting.{HasHole, LiesInHole, class_of}
use Rattle.sessions.specs.Plans.{Rules}
use Rattle.mutator_core.specs.declared.state.Extent.{Extent}
use Rattle.mutator_core.specs.declared.state.Local.{Local}
use Rattle.mutator_core.specs.declared.state.OwnedBlock.{OwnedBlock}
use Rattle.mutator_core.specs.Machine.{Epoch}
use Rattle.mutator_core.specs.Guards.{BeginsRegion, allowance}
use Rattle.mutator_core.specs.Logs.{heap_after}
use Rattle.block_regions.specs.declared.block_notes.BlockNote.{BlockNote}
use Rattle.block_regions.specs.declared.block_notes.BlockNote.TheVariants.{Unowned, Owned}
use Rattle.block_regions.specs.Notes.{FillsTails}
use Rattle.block_regions.specs.Regions.{HasObjectEndingAt}
use Rattle.local_allocators.specs.declared.local_seat.LocalSeat.{LocalSeat}
use Rattle.local_allocators.specs.MutatorRegions.{FillsLines}
use Rattle.mutator_rule.specs.declared.seat.MutatorSeat.{MutatorSeat}
use Rattle.mutator_rule.specs.declared.seat_notes.SeatNotes.{SeatNotes}
use Rattle.mutator_rule.specs.Seats.{known, local_of, epoch_of_seat}

-- What a mutator has for allocation: the blocks that it took, those of them that were Free, its
-- objects there, and its unused ticket.
pub record Holdings : Type 0 where
  pub owned : List OwnedBlock
  pub granted : List ℕ
  pub made : List Extent
  pub ticket : Option ℕ

abbrev pub holdings : Local → Holdings
holdings l =
    record { owned = l.owned; granted = l.granted; made = l.made; ticket = l.ticket }

-- what a mutator has after it made an object in a block that it has
abbrev pub with_object : Holdings → Extent → Holdings
with_object h x = record h { made = x ∷ h.made }

-- each block that the mutator took when it was Free has an object that it allocated
pub record UsesItsBlocks (p : Epoch) (h : Holdings) : Type 0 where
  pub each : (o : OwnedBlock) → Contains h.owned o → HasKind p.before o.block kinds.Free
      → (x : Extent) × Contains h.made x × (block_at p.before.blocks x.address ≡ o.block)

-- each such block but k has one
pub record UsesOthers (p : Epoch) (h : Holdings) (k : ℕ) : Type 0 where
  pub each : (o : OwnedBlock) → Contains h.owned o → HasKind p.before o.block kinds.Free
      → o.block ≢ k
      → (x : Extent) × Contains h.made x × (block_at p.before.blocks x.address ≡ o.block)

-- an object of the size may lie in a block of the class: without cells any may
abbrev pub Suits : Kind → ℕ → ℕ → Type 0
Suits fill class size = fill ≡ kinds.Cells → class_of size ≡ Some class

-- the region is a cell of the class
pub record IsCellRegion (class : ℕ) (region : Region) : Type 0 where
  pub index : ℕ
  pub start : region.next ≡ index * cell_words class
  pub end : region.end ≡ region.next + cell_words class

-- an object that was held as the epoch began, or one that the mutator made, begins at address a
abbrev pub HasObjectAt : Epoch → List Extent → ℕ → Type 0
HasObjectAt p made a = IsHeld p.before a ⊎ ((x : Extent) × Contains made x × (x.address ≡ a))

-- such an object ends at this offset of block k
abbrev pub HasEndAt : Epoch → List Extent → ℕ → ℕ → Type 0
HasEndAt p made k at = HasObjectEndingAt p.before k at
    ⊎ ((x : Extent) × Contains made x × (block_at p.before.blocks x.address ≡ k)
    × (x.address + x.size ≡ block_start p.before.blocks k + at))

-- a marked line of block k begins at offset `at`
pub record BeginsMarkedLine (s : HeapState) (k at : ℕ) : Type 0 where
  pub kind : HasKind s k kinds.Immix
  pub line : ℕ
  pub low : line < BLOCK_LINES
  pub start : at ≡ LINE_WORDS * line
  pub marked : IsTrue (line_marked s k line)

-- Of block k no hole begins before the region of the mutator that made these objects. A tail begins
-- where an object ends. Each cell before the region has an object, and a cell is a region whole.
-- A run of lines ends before a marked line.
pub record LosesNoHole (p : Epoch) (made : List Extent) (k class : ℕ) (region : Region) : Type 0
  where
    pub tail : FillsTails p.rules.fill → (region.end ≡ BLOCK_WORDS)
        × ((region.next ≡ 0) ⊎ HasEndAt p made k region.next)
    pub taken : p.rules.fill ≡ kinds.Cells → (index : ℕ) → index * cell_words class < region.next
        → index * cell_words class + cell_words class ≤ BLOCK_WORDS
        → HasObjectAt p made (block_start p.before.blocks k + index * cell_words class)
    pub whole : p.rules.fill ≡ kinds.Cells → region.next < BLOCK_WORDS
        → region.next + cell_words class ≤ region.end
    pub lines : p.rules.fill ≡ kinds.Immix → (region.end ≡ BLOCK_WORDS)
        ⊎ BeginsMarkedLine p.before k region.end

-- The region is what the mutator may fill of block k, which it took for the class. Its objects in
-- the block end before it. An object that suits the block, and for which it has room, may begin
-- at its start. No hole is lost before it.
pub record IsOwnRegion (p : Epoch) (h : Holdings) (k class : ℕ) (region : Region) : Type 0 where
  pub there : k < p.before.blocks
  pub mine : Contains h.owned (record { block = k; class = class })
  pub order : region.next ≤ region.end
  pub inside : region.end ≤ BLOCK_WORDS
  pub behind : (x : Extent) → Contains h.made x → block_at p.before.blocks x.address ≡ k
      → x.address + x.size ≤ block_start p.before.blocks k + region.next
  pub free : (size : ℕ) → 0 < size → region.next + size ≤ region.end
      → Suits p.rules.fill class size → HasKind p.before k kinds.Free
      ⊎ LiesInHole p.rules.fill p.before k region.next size
  pub begins : (size : ℕ) → 0 < size → region.next + size ≤ region.end
      → BeginsRegion p h.made (block_start p.before.blocks k + region.next) size
  pub cell : p.rules.fill ≡ kinds.Cells → region.next < region.end → IsCellRegion class region
  pub kept : LosesNoHole p h.made k class region

-- the mutator allocates in block k, of this class: the note has what it may fill there
pub record AllocatesIn (p : Epoch) (h : Holdings) (notes : List BlockNote) (class k : ℕ) : Type 0
  where
    pub owner : ℕ
    pub region : Region
    pub note : slice_get notes k ≡ Some (Owned owner region)
    pub room : IsOwnRegion p h k class region

-- block k has a note with a region
pub record HasOwnNote (notes : List BlockNote) (k : ℕ) : Type 0 where
  pub owner : ℕ
  pub region : Region
  pub note : slice_get notes k ≡ Some (Owned owner region)

-- The notes are right. A block that is noted as nobody's had no hole with room for the size noted
-- as the epoch began, or it has an owner in the heap s, which the mutator has seen. Each block of
-- the mutator's has a note with its region.
pub record HasRoomsIn (p : Epoch) (s : HeapState) (h : Holdings) (notes : List BlockNote)
    (local : LocalSeat) (allowed : ℕ) : Type 0 where
  pub allows : allowed ≡ allowance p
  pub ticket : local.ticket ≡ h.ticket
  pub len : length notes ≡ p.before.blocks
  pub unowned : (k least : ℕ) → slice_get notes k ≡ Some (Unowned least) → (0 < owner_at s k)
      ⊎ ((at size : ℕ) → least ≤ size → HasHole p.rules.fill p.before k at size → ⊥)
  pub owned : (k owner : ℕ) (region : Region) → slice_get notes k ≡ Some (Owned owner region)
      → (class : ℕ) × IsOwnRegion p h k class region
  pub noted : (o : OwnedBlock) → Contains h.owned o → HasOwnNote notes o.block
  pub classes : length local.blocks ≡ CLASSES
  pub each : (class k : ℕ) → slice_get local.blocks class ≡ Some (Some k)
      → AllocatesIn p h notes class k
  pub over : (k : ℕ) → local.over ≡ Some k → FillsLines p.rules.fill × AllocatesIn p h notes 0 k

-- the heap after the steps that the seat has seen
abbrev pub heap_seen_by : Rules → MutatorSeat → HeapState
heap_seen_by rules seat = heap_after (epoch_of_seat rules seat) (known seat).seen

abbrev pub HasRooms : Rules → MutatorSeat → Type 0
HasRooms rules seat = HasRoomsIn (epoch_of_seat rules seat)
    (heap_after (epoch_of_seat rules seat) (known seat).seen) (holdings (local_of seat))
    seat.notes.blocks.items seat.notes.local seat.notes.allowance

-- at most the flags of the notes changed
abbrev pub KeepsRooms : SeatNotes → SeatNotes → Type 0
KeepsRooms old new = new ≡ record old { flags = new.flags }
