-- What the seat of a mutator that races with others knows, and what its steps do. Facts of objects
-- are those of the heap after the steps that the seat has seen.
use Rattle.std.specs.Prelude.{◌≡◌, ◌≢◌, ◌<◌, ℕ, true, ◌||◌, Option, Some, List, [], ◌++◌, length, map, slice_get}
use Rattle.std.specs.Prelude.{slice_index}
use Rattle.std.specs.List.{Contains}
use Rattle.heap_layout.specs.Zones.{Zone, block_at}
use Rattle.heap_layout.specs.declared.block.Kind.TheVariants as kinds
use Rattle.ideal_heap.specs.declared.command.TheConstants.{REGISTERS}
use Rattle.ideal_heap.specs.declared.name.Name.{Name}
use Rattle.ideal_heap.specs.Runs.{Entry, entry}
use Rattle.object_model.specs.BitWords.{bit_word, bit_place}
use Rattle.object_model.specs.Objects.{HeapState, HasKind, name_at, is_unlogged}
use Rattle.object_model.specs.Ages.{is_old}
use Rattle.object_model.specs.declared.shape.Shape.{Shape}
use Rattle.sessions.specs.Plans.{Rules}
use Rattle.mutator_calls.specs.Effects.{Effect}
use Rattle.mutator_core.specs.declared.state.Extent.{Extent}
use Rattle.mutator_core.specs.declared.state.Local.{Local}
use Rattle.mutator_core.specs.declared.state.OwnedBlock.{OwnedBlock}
use Rattle.mutator_core.specs.Machine.{Epoch, address_in, refs_in, nums_in, nothing_unpublished}
use Rattle.mutator_core.specs.Guards.{MayStoreReference}
use Rattle.mutator_core.specs.Logs.{heap_after}
use Rattle.mutator_rule.specs.declared.racing_row.RacingRow.{RacingRow}
use Rattle.mutator_rule.specs.declared.seat.MutatorSeat.{MutatorSeat}
use Rattle.mutator_rule.specs.declared.views.MutatorView.{MutatorView}
use Rattle.mutator_rule.specs.Logs.{MakesEntries, KnowsLog}
use Rattle.mutator_rule.specs.Seats.{known, local_of, epoch_of_seat, IsSeatOf}
use Rattle.racing_mutator.specs.Logged.{logged_seen}
pub use Rattle.racing_rooms.specs.Rooms.{Holdings, holdings, UsesItsBlocks, HasRooms, KeepsRooms}
use Rattle.side_meta.specs.declared.word.TheConstants.{BITS_PER_WORD}
use Rattle.racing_mutator.specs.declared.racing.Racing.{Racing}

-- the entries of an effect
abbrev pub entries_in : ℕ → Effect → List Entry
entries_in m e = map (λ x. entry m x.command x.reply) e.entries

-- the objects whose unlog bits the seat's mutator cleared in the epoch, by their addresses
abbrev pub logged_at : Rules → MutatorSeat → List ℕ
logged_at rules seat = logged_seen rules (known seat)

-- There is a flag for each block, and each object that the seat's mutator logged begins in a block
-- whose flag is set.
pub record HasFlags (rules : Rules) (seat : MutatorSeat) : Type 0 where
  pub len : length seat.notes.flags.items ≡ (epoch_of_seat rules seat).before.blocks
  pub each : (a : ℕ) → Contains (logged_at rules seat) a
      → slice_get seat.notes.flags.items (block_at (epoch_of_seat rules seat).before.blocks a) ≡ Some true

-- The seat is one of the row, and no call is under way: no object is unpublished, and no object is
-- logged for a store to come.
pub record IsAtRest {P : Type 0} (rules : Rules) (row : RacingRow P) (seat : MutatorSeat) : Type 0
  where
    pub own : IsSeatOf rules row seat
    pub none : (local_of seat).unpublished ≡ nothing_unpublished
    pub stored : (local_of seat).pending ≡ 0

-- The seat is between two calls at the row, has flags of the blocks in which it logged objects, no
-- Free block that it took is empty, and what it notes of its rooms is right.
abbrev pub MayCall : {P : Type 0} → Rules → RacingRow P → MutatorSeat → Type 0
MayCall rules row seat = IsAtRest rules row seat × HasFlags rules seat
    × UsesItsBlocks (epoch_of_seat rules seat) (holdings (local_of seat)) × HasRooms rules seat

module _ {P : Type 0} where
  -- what the seat knows, the mutator's state, and its epoch
  abbrev pub view : Racing P → MutatorView
  view r = known r.seat.now

  abbrev pub local : Racing P → Local
  local r = local_of r.seat.now

  abbrev pub epoch_of_racing : Rules → Racing P → Epoch
  epoch_of_racing rules r = epoch_of_seat rules r.seat.now

  -- the heap after the steps that the seat has seen
  abbrev pub heap_seen : Rules → Racing P → HeapState
  heap_seen rules r = heap_after (epoch_of_racing rules r) (view r).seen

  abbrev pub address : Racing P → ℕ → ℕ
  address r s = slice_index r.seat.now.registers s

  abbrev pub IsReady : Rules → Racing P → Type 0
  IsReady rules r = IsAtRest rules r.row.now r.seat.now

  -- the shape word last loaded is that of the object in register s
  pub record HasShape (r : Racing P) (s : ℕ) (shape : Shape) : Type 0 where
    pub some : address r s ≢ 0
    pub at : (local r).shape.at ≡ address r s
    pub refs : shape.refs ≡ refs_in (local r).shape.word
    pub nums : shape.nums ≡ nums_in (local r).shape.word

  abbrev pub HasName : Rules → Racing P → ℕ → Name → Type 0
  HasName rules r a n = n ≡ name_at (heap_seen rules r) a

  abbrev pub MayStoreUnlogged : Rules → Racing P → ℕ → Type 0
  MayStoreUnlogged rules r s = MayStoreReference (epoch_of_racing rules r) (local r) s

  -- the register, one of 16 that is not nil, holds an old object
  abbrev pub IsAged : Rules → Racing P → ℕ → Type 0
  IsAged rules r s = (s < REGISTERS) × (address r s ≢ 0)
      × (is_old (heap_seen rules r) (address r s) ≡ true)

  abbrev pub IsMarked : Rules → Racing P → ℕ → Type 0
  IsMarked rules r s = is_unlogged (heap_seen rules r) (address r s) ≡ true

  -- the stop word, as the seat last loaded it
  abbrev pub HasStop : Racing P → ℕ → Type 0
  HasStop r n = (local r).stop ≡ n

  -- From the one state to the other the mutator made steps that make these entries. A stop that it
  -- has seen stays. It has flags of the blocks in which it logged objects, as it had before.
  pub record Makes (rules : Rules) (a : Racing P) (es : List Entry) (b : Racing P) : Type 0 where
    pub seat : b.seat.ghost_name ≡ a.seat.ghost_name
    pub row : b.row ≡ a.row
    pub goes : MakesEntries rules (view a) es (view b)
    pub stop : 0 < (local a).stop → (local b).stop ≡ (local a).stop
    pub flags : HasFlags rules a.seat.now → HasFlags rules b.seat.now
    pub told : KnowsLog (epoch_of_racing rules a) (view a)
        → KnowsLog (epoch_of_racing rules b) (view b)

  -- The same of an effect: it says which objects were logged, and whether the mutator tried to
  -- raise a stop. Nothing is allocated.
  pub record DoesEffect (rules : Rules) (a : Racing P) (e : Effect) (b : Racing P) : Type 0 where
    pub makes : Makes rules a (entries_in (local a).number e) b
    pub logged : logged_at rules b.seat.now ≡ logged_at rules a.seat.now ++ e.logged
    pub raised : (local b).raised ≡ ((local a).raised || e.raised)
    pub kept : holdings (local b) ≡ holdings (local a)
    pub rooms : KeepsRooms a.seat.now.notes b.seat.now.notes

  -- From the one state to the other the mutator only loaded words. What is old or not logged after
  -- it was so before.
  pub record OnlyLoads (rules : Rules) (a b : Racing P) : Type 0 where
    pub makes : Makes rules a [] b
    pub logged : logged_at rules b.seat.now ≡ logged_at rules a.seat.now
    pub raised : (local b).raised ≡ (local a).raised
    pub kept : holdings (local b) ≡ holdings (local a)
    pub rooms : KeepsRooms a.seat.now.notes b.seat.now.notes
    pub registers : b.seat.now.registers ≡ a.seat.now.registers
    pub ages : (s : ℕ) → IsAged rules b s → IsAged rules a s
    pub marks : (s : ℕ) → IsMarked rules b s → IsMarked rules a s

  -- the word with this zone's bit of the object in register s, by its index in the row, and the
  -- place of the bit in it
  pub record IsBitOf (rules : Rules) (r : Racing P) (zone : Zone) (s at bit : ℕ) : Type 0 where
    pub word : at ≡ bit_word (epoch_of_racing rules r).before.blocks zone (address_in (local r) s)
    pub place : bit ≡ bit_place (epoch_of_racing rules r).before.blocks (address_in (local r) s)
    pub low : bit < BITS_PER_WORD
    pub inside : at < r.row.now.row.words.table_id.words
