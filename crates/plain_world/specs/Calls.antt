-- What the calls of a world promise.
use Rattle.std.specs.Prelude.{◌≡◌, ◌≢◌, ℕ, ◌+◌, ◌<◌, ◌≤◌, Bool, true, false, ◌&&◌, not, Option, List, [], ◌∷◌, ◌++◌}
use Rattle.std.specs.Prelude.{map, length, slice_get, slice_index}
use Rattle.std.specs.List.{Contains}
use Rattle.heap_layout.specs.declared.layout.TheConstants.{BUDGET_WORD, STOP_WORD}
use Rattle.heap_layout.specs.declared.block.Kind.{Kind}
use Rattle.heap_layout.specs.declared.block.Kind.TheVariants as kinds
use Rattle.ideal_heap.specs.declared.command.Command.{Command}
use Rattle.ideal_heap.specs.declared.command.Command.TheVariants as command
use Rattle.ideal_heap.specs.declared.reply.Reply.TheVariants as replies
use Rattle.ideal_heap.specs.declared.name.Name.{Name}
use Rattle.ideal_heap.specs.declared.reply.Reply.{Reply}
use Rattle.ideal_heap.specs.Ideal.{IdealHeap}
use Rattle.ideal_heap.specs.Runs.{Entry, entry}
use Rattle.object_model.specs.Objects.{HeapState, state_of, word_at, block_word, has_kind, HasKind, IsHeld, is_unlogged}
use Rattle.object_model.specs.Objects.{size_of}
use Rattle.object_model.specs.declared.shape.TheConstants.{HEADER_WORDS, MAX_MEDIUM_WORDS}
use Rattle.object_model.specs.Graphs.{MutatorState}
use Rattle.object_model.specs.Ages.{is_old}
use Rattle.sessions.specs.Plans.{Rules}
use Rattle.mutator_core.specs.Machine.{Epoch}
use Rattle.mutator_calls.specs.Effects.{Effect, Answered, enters, logs, draws}
use Rattle.mutator_calls.specs.Allocating.{Books, births_with, Draws, IsSpent, Search, FindsRoom}
use Rattle.plain_world.specs.declared.plain_world.PlainWorld.{PlainWorld}
use Rattle.local_allocators.specs.declared.local_seat.LocalSeat.{LocalSeat}
use Rattle.block_regions.specs.declared.block_notes.BlockNote.{BlockNote}
use Rattle.plain_row.specs.Rows.{mutator_number, births_of, registers_of, view_of}
use Rattle.heap_users.specs.Users.{mutator_state}
use Rattle.local_allocators.specs.Seats.{ticket_of}
use Rattle.local_allocators.specs.MutatorRegions.{MutatorRegions, TriesBlock, Overflows, KeepsHole, KeepsRegions}
use Rattle.local_allocators.specs.MutatorRegions.{LacksBlock, LacksRegions}
use Rattle.plain_row.specs.Worlds.{IsAfter, RowIsBetweenCalls, is_in_list, births_in, stop_after}
use Rattle.local_allocators.specs.NotedRegions.{regions_of}
use Rattle.local_allocators.specs.Placing.{LocalView, IsPlacedIn}

-- the heap, as the mutators use it
abbrev pub heap_of_world : {P : Type 0} → PlainWorld P → HeapState
heap_of_world w = state_of w.row.row

-- the mutators' numbers, births and registers
abbrev pub mutators_of_world : {P : Type 0} → PlainWorld P → List MutatorState
mutators_of_world w = map mutator_state w.row.mutators.items

-- the number and the births of the mutator at a place of the list, and its ticket
abbrev pub mutator_number_at : {P : Type 0} → PlainWorld P → ℕ → ℕ
mutator_number_at w m = mutator_number (slice_get w.row.mutators.items m)

abbrev pub births_at : {P : Type 0} → PlainWorld P → ℕ → ℕ
births_at w m = births_of (slice_get w.row.mutators.items m)

abbrev pub ticket_at : {P : Type 0} → PlainWorld P → ℕ → Option ℕ
ticket_at w m = ticket_of (slice_get w.row.seats.items m)

-- the address in a register of the mutator at a place
abbrev pub register_in : {P : Type 0} → PlainWorld P → ℕ → ℕ → ℕ
register_in w m s = slice_index (registers_of (slice_get w.row.mutators.items m)) s

-- the number of mutators, and a place in their list
abbrev pub places_of : {P : Type 0} → PlainWorld P → ℕ
places_of w = length w.row.mutators.items

abbrev pub HasPlace : {P : Type 0} → PlainWorld P → ℕ → Type 0
HasPlace w m = m < places_of w

-- The world is between two calls, mutators fill blocks of the kind of these rules, and stores log
-- old objects if the rules have young ones.
pub record IsOpen {P : Type 0} (rules : Rules) (w : PlainWorld P) : Type 0 where
  pub between_calls : RowIsBetweenCalls w.row
  pub fill : w.row.fill ≡ rules.fill
  pub young : w.row.young ≡ rules.young

-- the world is in the epoch p, which began with the ideal heap i, and the history since then is the
-- part
abbrev pub HasHistory : {P : Type 0} → PlainWorld P → Epoch → IdealHeap → List Entry → Type 0
HasHistory w p i part = IsAfter p i part w.row

-- the history gets these entries
abbrev pub AddsEntries : {P : Type 0} → PlainWorld P → List Entry → PlainWorld P → Type 0
AddsEntries old es new = (p : Epoch) (i : IdealHeap) (part : List Entry) → HasHistory old p i part
    → HasHistory new p i (part ++ es)

-- the entries of the mutator with this number, each a command with its reply
abbrev pub numbered_entries : ℕ → List Answered → List Entry
numbered_entries number es = map (λ x. entry number x.command x.reply) es

-- the history gets one entry, of the mutator at place m
abbrev pub AddsEntry : {P : Type 0} → PlainWorld P → ℕ → Command → Reply → PlainWorld P → Type 0
AddsEntry old m command reply new =
    AddsEntries old (entry (mutator_number_at old m) command reply ∷ []) new

-- the same mutators, at the same places
pub record SamePlaces {P : Type 0} (old new : PlainWorld P) : Type 0 where
  pub count : places_of new ≡ places_of old
  pub numbers : map (λ m. m.number) new.row.mutators.items
      ≡ map (λ m. m.number) old.row.mutators.items

-- the plan is generational
abbrev pub is_generational : {P : Type 0} → PlainWorld P → Bool
is_generational w = w.row.young

-- the unlog bits of these objects are clear now, and no other unlog bit changed
abbrev pub Logs : {P : Type 0} → PlainWorld P → List ℕ → PlainWorld P → Type 0
Logs old addresses new = (x : ℕ) → is_unlogged (heap_of_world new) x
    ≡ (is_unlogged (heap_of_world old) x && not (is_in_list addresses x))

-- the plan is generational, and the object at the address is old and not logged
pub record IsOldUnlogged {P : Type 0} (w : PlainWorld P) (address : ℕ) : Type 0 where
  pub plan : is_generational w ≡ true
  pub old : is_old (heap_of_world w) address ≡ true
  pub unlogged : is_unlogged (heap_of_world w) address ≡ true

-- these blocks were Free and are not, and no other block became or ceased to be Free
pub record Grants {P : Type 0} (old : PlainWorld P) (blocks : List ℕ) (new : PlainWorld P) : Type 0
  where
    pub kind : (k : ℕ) → has_kind (heap_of_world new) k kinds.Free
        ≡ (has_kind (heap_of_world old) k kinds.Free && not (is_in_list blocks k))
    pub free : (k : ℕ) → Contains blocks k → HasKind (heap_of_world old) k kinds.Free

-- the accounts of the mutator at a place
abbrev pub books_at : {P : Type 0} → PlainWorld P → ℕ → Books
books_at w m = record {
  blocks = w.row.row.layout.blocks;
  allowance = w.row.allowance;
  births = births_at w m;
  ticket = ticket_at w m;
}

-- the notes on blocks, and the seat of the mutator at a place
abbrev pub notes_of : {P : Type 0} → PlainWorld P → List BlockNote
notes_of w = w.row.notes.items

abbrev pub seat_at : {P : Type 0} → PlainWorld P → ℕ → Option LocalSeat
seat_at w m = slice_get w.row.seats.items m

-- what the world is to the allocation of that mutator
abbrev pub view_at : {P : Type 0} → PlainWorld P → ℕ → LocalView
view_at w m = view_of w.row m

-- the regions of that mutator
abbrev pub regions_at : {P : Type 0} → PlainWorld P → ℕ → MutatorRegions
regions_at w m = regions_of (notes_of w) (seat_at w m)

-- block k has no room for an object of the size that the mutator at place m may fill
abbrev pub HasNoRoom : {P : Type 0} → PlainWorld P → ℕ → ℕ → ℕ → Type 0
HasNoRoom w m size k =
    LacksBlock w.row.fill (regions_at w m) (heap_of_world w) (mutator_number_at w m) size k

-- no region that the mutator at place m tries for the size has room
abbrev pub HasFullRegions : {P : Type 0} → PlainWorld P → ℕ → ℕ → Type 0
HasFullRegions w m size =
    LacksRegions w.row.fill (regions_at w m) (heap_of_world w) (mutator_number_at w m) size

-- an object of the size overflows the hole region of the mutator at place m
abbrev pub OverflowsAt : {P : Type 0} → PlainWorld P → ℕ → ℕ → Type 0
OverflowsAt w m size = Overflows w.row.fill (regions_at w m) size

-- the mutator at place m keeps its hole region
abbrev pub KeepsHoleAt : {P : Type 0} → PlainWorld P → ℕ → PlainWorld P → Type 0
KeepsHoleAt old m new = KeepsHole (regions_at old m) (regions_at new m)

-- from the one world to the other the mutator at place m keeps its regions
abbrev pub KeepsRegionsAt : {P : Type 0} → PlainWorld P → ℕ → PlainWorld P → Type 0
KeepsRegionsAt old m new = KeepsRegions (regions_at old m) (regions_at new m)

-- block k is not Free
abbrev pub IsNotFree : {P : Type 0} → PlainWorld P → ℕ → Type 0
IsNotFree w k = HasKind (heap_of_world w) k kinds.Free → ⊥

-- the kind of the blocks that mutators fill, and the number of Free blocks that they may take in
-- the epoch
abbrev pub fill_of : {P : Type 0} → PlainWorld P → Kind
fill_of w = w.row.fill

abbrev pub epoch_allowance : {P : Type 0} → PlainWorld P → ℕ
epoch_allowance w = w.row.allowance

-- the stop word and the budget word
abbrev pub stop_word : {P : Type 0} → PlainWorld P → ℕ
stop_word w = word_at (heap_of_world w) STOP_WORD

abbrev pub budget_word : {P : Type 0} → PlainWorld P → ℕ
budget_word w = word_at (heap_of_world w) BUDGET_WORD

-- Steps of this effect, of the mutator at place m, change stop word, budget word, block words,
-- births, tickets and regions so, and nothing of the other mutators. Each object stays where it is,
-- with its three header words.
pub record LeavesRest {P : Type 0} (old : PlainWorld P) (m : ℕ) (e : Effect)
    (new : PlainWorld P) : Type 0 where
  pub stop : stop_word new ≡ stop_after e.raised (mutator_number_at old m) (stop_word old)
  pub budget : budget_word new ≡ budget_word old + e.drawn
  pub blocks : (k : ℕ) → k < (heap_of_world old).blocks → is_in_list e.taken k ≡ false
      → block_word (heap_of_world new) k ≡ block_word (heap_of_world old) k
  pub births : births_at new m ≡ births_at old m + births_in e.entries
  pub ticket : e.drawn ≡ 0 → e.granted ≡ [] → ticket_at new m ≡ ticket_at old m
  pub regions : e.moved ≡ false → KeepsRegionsAt old m new
  pub others : (k : ℕ) → k ≢ m
      → (slice_get new.row.mutators.items k ≡ slice_get old.row.mutators.items k)
      × (seat_at new k ≡ seat_at old k) × KeepsRegionsAt old k new
  pub objects : (x : ℕ) → IsHeld (heap_of_world old) x → IsHeld (heap_of_world new) x
      × ((j : ℕ) → j < HEADER_WORDS
      → word_at (heap_of_world new) (x + j) ≡ word_at (heap_of_world old) (x + j))

-- The world is between two calls again, with the same mutators at the same places, under the same
-- plan.
pub record StaysOpen {P : Type 0} (rules : Rules) (old new : PlainWorld P) : Type 0 where
  pub is_open : IsOpen rules new
  pub places : SamePlaces old new
  pub plan : is_generational new ≡ is_generational old

-- A call of the mutator at a place had this effect.
pub record HasEffect {P : Type 0} (rules : Rules) (old : PlainWorld P) (place : ℕ) (e : Effect)
    (new : PlainWorld P) : Type 0 where
  pub stays : StaysOpen rules old new
  -- the history has the entries of the effect more
  pub history : AddsEntries old (numbered_entries (mutator_number_at old place) e.entries) new
  -- the objects of the effect are logged, and no others
  pub logged : Logs old e.logged new
  -- the Free blocks of the effect are taken, and no others
  pub granted : Grants old e.granted new
  -- nothing else changes but what such an effect changes
  pub rest : LeavesRest old place e new

-- A call of the mutator at a place entered the command with this reply, and changed nothing else.
abbrev pub EntersCommand : {P : Type 0} → Rules → PlainWorld P → ℕ → Command → Reply → PlainWorld P
    → Type 0
EntersCommand rules old place command reply new =
    HasEffect rules old place (enters command reply) new

-- The object-remembering barrier of a store with this reply into the object at the address.
pub data LogsStore {P : Type 0} (old : PlainWorld P) (address : ℕ) (reply : Reply) (logged : List ℕ)
    : Type 0 where
  -- logs nothing, if the store is not made, or the object is not old, or it is logged already
  nothing_logged : logged ≡ [] → (reply ≡ replies.Done → IsOldUnlogged old address → ⊥)
      → LogsStore old address reply logged
  -- logs the object
  object_logged : logged ≡ address ∷ [] → reply ≡ replies.Done → IsOldUnlogged old address
      → LogsStore old address reply logged

-- A call of the mutator at a place entered a store of register v into reference i of the object in
-- register s with this reply, and logged the object if the barrier demands it.
pub record EntersStore {P : Type 0} (rules : Rules) (old : PlainWorld P) (place s i v : ℕ)
    (reply : Reply) (new : PlainWorld P) : Type 0 where
  pub logged : List ℕ
  pub call : HasEffect rules old place (logs logged (command.Put s i v) reply) new
  pub barrier : LogsStore old (register_in old place s) reply logged

-- the heap, the mutators, their tickets and their regions are unchanged
pub record IsUnchanged {P : Type 0} (old new : PlainWorld P) : Type 0 where
  pub heap : heap_of_world new ≡ heap_of_world old
  pub mutators : mutators_of_world new ≡ mutators_of_world old
  pub tickets : (k : ℕ) → ticket_at new k ≡ ticket_at old k
  pub regions : (k : ℕ) → KeepsRegionsAt old k new

-- the mutator at place m tries a region in block k for objects of this size
abbrev pub AllocatesAt : {P : Type 0} → PlainWorld P → ℕ → ℕ → ℕ → Type 0
AllocatesAt w m size k = TriesBlock w.row.fill (regions_at w m) size k

-- no block in which the mutator at place m tries a region for the size has room for it
abbrev pub HasSpentBlocks : {P : Type 0} → PlainWorld P → ℕ → ℕ → Type 0
HasSpentBlocks w m size = IsSpent (AllocatesAt w m size) (HasNoRoom w m size)

-- what the search of the mutator at place m reads for room of a size
abbrev pub search_at : {P : Type 0} → PlainWorld P → ℕ → ℕ → PlainWorld P → Search
search_at old m size new = record {
  lacks = HasNoRoom new m size;
  used = IsNotFree new;
  before = AllocatesAt old m size;
  now = AllocatesAt new m size;
  next = λ t. t ≡ budget_word old;
  full = HasFullRegions old m size;
  spent = HasSpentBlocks old m size;
  overflow = OverflowsAt old m size;
  kept = KeepsHoleAt old m new;
  blocks = (heap_of_world new).blocks;
  allowance = epoch_allowance new;
  old = ticket_at old m;
  new = ticket_at new m;
}

-- The mutator at place m allocates an object of this name: it takes these blocks, of which these
-- were Free, and draws so many tickets.
pub record Allocates {P : Type 0} (old : PlainWorld P) (m d r q : ℕ) (n : Name)
    (new : PlainWorld P) : Type 0 where
  pub taken : List ℕ
  pub granted : List ℕ
  pub drawn : ℕ
  pub history : AddsEntry old m (command.New d r q) (replies.New n) new
  pub grants : Grants old granted new
  pub rest : LeavesRest old m (births_with d r q n taken granted drawn) new
  pub finds : FindsRoom (search_at old m (size_of r q) new) taken granted drawn
  pub placed : IsPlacedIn (view_at old m) (view_at new m) (register_in new m d) (size_of r q)

-- The mutator at place m allocates no object of this size, and keeps its regions. It draws a ticket
-- or none; none if the object is large. Else no region that it tries has room, nor has a block with
-- such a region.
pub record Refuses {P : Type 0} (old : PlainWorld P) (m size : ℕ) (new : PlainWorld P) : Type 0
  where
    pub drawn : ℕ
    pub history : AddsEntries old [] new
    pub grants : Grants old [] new
    pub rest : LeavesRest old m (draws drawn) new
    pub tickets : Draws (λ t. t ≡ budget_word old) (ticket_at old m) (ticket_at new m) drawn
    pub large : MAX_MEDIUM_WORDS < size → drawn ≡ 0
    pub full : size ≤ MAX_MEDIUM_WORDS → HasFullRegions old m size
    pub spent : size ≤ MAX_MEDIUM_WORDS → HasSpentBlocks old m size
