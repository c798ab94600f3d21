-- A world of mutators in turns, after steps of the mutator machine.
use Rattle.std.specs.Prelude.{◌≡◌, ◌≢◌, ℕ, ◌+◌, ◌<◌, ◌≤◌, Bool, true, false, ◌&&◌, not, nat_eq, if◌then◌else◌, Some}
use Rattle.std.specs.Prelude.{List, [], ◌++◌, map, length, sum_by, slice_get, vec_capacity}
use Rattle.std.specs.List.{Contains, AllByRecursion, list_any}
use Rattle.heap_layout.specs.declared.layout.TheConstants.{BUDGET_WORD, STOP_WORD}
use Rattle.heap_layout.specs.declared.block.Kind.{Kind}
use Rattle.heap_layout.specs.declared.block.Kind.TheVariants as kinds
use Rattle.ideal_heap.specs.Commands.{is_new}
use Rattle.ideal_heap.specs.Ideal.{IdealHeap}
use Rattle.ideal_heap.specs.Runs.{Entry, entry}
use Rattle.object_model.specs.Objects.{HeapState, state_of, word_at, block_word, has_kind, HasKind, class_at}
use Rattle.object_model.specs.Objects.{is_unlogged}
use Rattle.object_model.specs.Graphs.{numbers_of}
use Rattle.plan_api.specs.Counting.{session_counts}
use Rattle.sessions.specs.Fitting.{counts_of}
use Rattle.mutator_core.specs.declared.state.Local.{Local}
use Rattle.mutator_core.specs.declared.state.LogEntry.{LogEntry}
use Rattle.mutator_core.specs.Machine.{Epoch, nothing_unpublished}
use Rattle.mutator_core.specs.Guards.{allowance}
use Rattle.mutator_core.specs.Histories.{history}
use Rattle.mutator_core.specs.Logs.{IsEpochLog, machine_after, heap_after, local_after_log, history_of}
use Rattle.mutator_calls.specs.declared.need.Mutator.{Mutator}
use Rattle.mutator_calls.specs.Effects.{Effect, Answered}
use Rattle.plain_row.specs.declared.plain_row.PlainRow.{PlainRow}
use Rattle.local_allocators.specs.declared.local_seat.LocalSeat.{LocalSeat}
use Rattle.block_regions.specs.declared.block_notes.BlockNote.{BlockNote}
use Rattle.block_regions.specs.declared.block_notes.BlockNote.TheVariants.{Owned}
use Rattle.heap_layout.specs.declared.region.Region.{Region}
use Rattle.heap_layout.specs.declared.block.TheConstants.{CLASSES}
use Rattle.plain_row.specs.Rows.{IsTurn, mutator_at_turn, number_at_turn, seat_at_turn, births_of, regions_at_turn}
use Rattle.local_allocators.specs.Seats.{ticket_of, blocks_of, over_of}
use Rattle.local_allocators.specs.MutatorRegions.{FillsLines, IsBlockFor, KeepsRegions}
use Rattle.block_regions.specs.Notes.{FillsHoles, FlagsCover, HasNotes, ListsOwned, IsRegionOf, AreFilled, IsRoomIn}

-- The mutator and its seat have the machine's state of the mutator, which has no unpublished
-- object, and no unlog bit cleared for a store to come.
pub record HasState (m : Mutator) (x : LocalSeat) (l : Local) : Type 0 where
  pub births : l.births ≡ m.births
  pub registers : l.registers ≡ m.registers
  pub ticket : l.ticket ≡ x.ticket
  pub none : l.unpublished ≡ nothing_unpublished
  pub stored : l.pending ≡ 0

-- The mutator of the seat owns each block in which it allocates objects of a class, and the block
-- has this class. Only under a plan with lines has it an overflow region (`lined`), whose block it
-- owns, and which is not that of the hole region.
pub record HasCursors (fill : Kind) (notes : List BlockNote) (s : HeapState) (number : ℕ)
    (x : LocalSeat) : Type 0 where
  pub classes : length x.blocks ≡ CLASSES
  pub each : (class block : ℕ) → slice_get x.blocks class ≡ Some (Some block)
      → IsRegionOf notes number block × (class_at s block ≡ class)
  pub lined : (block : ℕ) → x.over ≡ Some block → FillsLines fill
  pub over : FillsLines fill → (block : ℕ) → x.over ≡ Some block → IsRegionOf notes number block
  pub apart : FillsLines fill → (block : ℕ) → x.over ≡ Some block
      → slice_get x.blocks 0 ≡ Some (Some block) → ⊥

-- The list has the blocks that mutators own, with room for all blocks. The counts are those of the
-- epoch's beginning.
pub record HasLists (p : Epoch) (w : PlainRow) : Type 0 where
  pub owned : ListsOwned w.notes.items w.owned.items
  pub room : w.row.layout.blocks ≤ vec_capacity w.owned
  pub counts : session_counts w.counts ≡ counts_of p.before

-- The world is in the epoch p, which began with a heap that represented i, after the steps of the
-- log.
pub record IsAt (p : Epoch) (i : IdealHeap) (log : List LogEntry) (w : PlainRow) : Type 0 where
  pub epoch : IsEpochLog p i log
  pub heap : state_of w.row ≡ heap_after p log
  pub numbers : map (λ m. m.number) w.mutators.items ≡ numbers_of p.mutators
  pub seats : length w.seats.items ≡ length w.mutators.items
  pub each : (k : ℕ) (m : Mutator) (x : LocalSeat) → slice_get w.mutators.items k ≡ Some m
      → slice_get w.seats.items k ≡ Some x → HasState m x (local_after_log p log m.number)
  pub cursors : (k : ℕ) (m : Mutator) (x : LocalSeat) → slice_get w.mutators.items k ≡ Some m
      → slice_get w.seats.items k ≡ Some x
      → HasCursors w.fill w.notes.items (state_of w.row) m.number x
  pub notes : HasNotes w.fill (state_of w.row) w.notes.items
  pub fill : w.fill ≡ p.rules.fill
  pub fills : FillsHoles w.fill
  pub young : w.young ≡ p.rules.young
  pub allowed : w.allowance ≡ allowance p
  pub lists : HasLists p w
  pub flags : FlagsCover p.rules (state_of w.row) w.flags.items

-- It is the turn of a mutator whose blocks have notes.
pub record IsReadableSeat (w : PlainRow) : Type 0 where
  pub turn : IsTurn w
  pub classes : length (blocks_of (seat_at_turn w)) ≡ CLASSES
  pub blocks : (class k : ℕ) → slice_get (blocks_of (seat_at_turn w)) class ≡ Some (Some k)
      → k < length w.notes.items
  pub over : (k : ℕ) → FillsLines w.fill → over_of (seat_at_turn w) ≡ Some k
      → k < length w.notes.items

-- the world is in some epoch
pub record IsInSomeEpoch (w : PlainRow) : Type 0 where
  pub epoch : Epoch
  pub ideal : IdealHeap
  pub log : List LogEntry
  pub at : IsAt epoch ideal log w

-- the world is between two calls
pub record RowIsBetweenCalls (w : PlainRow) : Type 0 where
  pub some : IsInSomeEpoch w
  pub filled : AreFilled w.notes.items

-- and it is the turn of a mutator
pub record MayCall (w : PlainRow) : Type 0 where
  pub turn : IsTurn w
  pub between_calls : RowIsBetweenCalls w

-- the region that takes objects of this size of the mutator whose turn it is has room for one
pub record RegionHasRoomFor (w : PlainRow) (size : ℕ) : Type 0 where
  pub turn : IsTurn w
  pub some : IsInSomeEpoch w
  pub block : ℕ
  pub current : IsBlockFor w.fill (regions_at_turn w) size block
  pub room : IsRoomIn w.notes.items (number_at_turn w) size block

-- the number is in the list
abbrev pub is_in_list : List ℕ → ℕ → Bool
is_in_list xs x = list_any (nat_eq x) xs

-- From the log on, mutator m made steps that make the entries of this effect.
pub record Continues (p : Epoch) (i : IdealHeap) (log : List LogEntry) (m : ℕ) (e : Effect)
    (w : PlainRow) : Type 0 where
  pub more : List LogEntry
  pub own : AllByRecursion (λ x. x.mutator ≡ m) more
  pub at : IsAt p i (log ++ more) w
  pub entries : history p (machine_after p log) more
      ≡ map (λ x. entry m x.command x.reply) e.entries

-- the stop word after a mutator tried to raise a stop, or did not
abbrev pub stop_after : Bool → ℕ → ℕ → ℕ
stop_after true number word = if nat_eq word 0 then number else word
stop_after false number word = word

-- the number of objects that are allocated
abbrev pub births_in : List Answered → ℕ
births_in es = sum_by (λ x. if is_new x.command then 1 else 0) es

-- The mutator whose turn it is made steps of this effect.
pub record Goes (a : PlainRow) (e : Effect) (b : PlainRow) : Type 0 where
  -- it is its turn still
  pub turn : b.turn ≡ a.turn
  pub number : number_at_turn b ≡ number_at_turn a
  -- from each log that leads to the first state, its steps go on, and make the effect's entries
  pub steps : (p : Epoch) (i : IdealHeap) (log : List LogEntry) → IsAt p i log a
      → Continues p i log (number_at_turn a) e b
  -- the unlog bits of the objects that are logged are clear, and no other unlog bit changed
  pub logged : (x : ℕ) → is_unlogged (state_of b.row) x
      ≡ (is_unlogged (state_of a.row) x && not (is_in_list e.logged x))
  -- the blocks that are granted were Free and are not, and no other block became Free or ceased to
  -- be Free
  pub granted : (k : ℕ) → has_kind (state_of b.row) k kinds.Free
      ≡ (has_kind (state_of a.row) k kinds.Free && not (is_in_list e.granted k))
  pub free : (k : ℕ) → Contains e.granted k → HasKind (state_of a.row) k kinds.Free
  -- the heap has as many blocks, and mutators fill those of the same kind
  pub size : b.row.layout.blocks ≡ a.row.layout.blocks
  pub fill : b.fill ≡ a.fill
  -- the words of blocks stay but for those that are taken
  pub blocks : (k : ℕ) → k < a.row.layout.blocks → is_in_list e.taken k ≡ false
      → block_word (state_of b.row) k ≡ block_word (state_of a.row) k
  -- the budget word counts the tickets that are drawn
  pub budget : word_at (state_of b.row) BUDGET_WORD ≡ word_at (state_of a.row) BUDGET_WORD + e.drawn
  -- the stop word is the mutator's number if it raised a stop and none was raised
  pub stop : word_at (state_of b.row) STOP_WORD
      ≡ stop_after e.raised (number_at_turn a) (word_at (state_of a.row) STOP_WORD)
  -- each entry of an allocation is a birth
  pub births : births_of (mutator_at_turn b) ≡ births_of (mutator_at_turn a) + births_in e.entries
  -- the mutator's ticket stays if none is drawn, and none used for a block
  pub ticket : e.drawn ≡ 0 → e.granted ≡ []
      → ticket_of (seat_at_turn b) ≡ ticket_of (seat_at_turn a)
  -- the mutator's regions stay if the effect changes none
  pub regions : e.moved ≡ false → KeepsRegions (regions_at_turn a) (regions_at_turn b)
  -- the other mutators, their seats and the regions in their blocks stay
  pub others : (k : ℕ) → k ≢ a.turn → (slice_get b.mutators.items k ≡ slice_get a.mutators.items k)
      × (slice_get b.seats.items k ≡ slice_get a.seats.items k)
  pub foreign : (k owner : ℕ) (region : Region) → owner ≢ number_at_turn a
      → slice_get a.notes.items k ≡ Some (Owned owner region)
      → slice_get b.notes.items k ≡ Some (Owned owner region)

-- the world is in the epoch p, and its history since then is the part
pub record IsAfter (p : Epoch) (i : IdealHeap) (part : List Entry) (w : PlainRow) : Type 0 where
  pub log : List LogEntry
  pub at : IsAt p i log w
  pub history : history_of p log ≡ part
