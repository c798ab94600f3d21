-- From the effect of a mutator's steps to what a call of the world promises.
use Rattle.std.proofs.Common.{◌≡◌, ◌≢◌, refl, sym, ◌∙◌, ap, subst, ℕ, ◌+◌, ◌<◌, ◌⊎◌, inl, inr, arith, List, [], ◌∷◌, ◌++◌, map, length, true, false}
use Rattle.std.specs.List.{Contains}
use Rattle.std.proofs.lemmas.List.{length-map}
use Rattle.object_model.specs.Objects.{HeapState, state_of, word_at, IsHeld, is_unlogged}
use Rattle.object_model.specs.Graphs.{numbers_of}
use Rattle.object_model.specs.Ages.{is_old}
use Rattle.mutator_core.proofs.EpochEnds.{log-seen}
use Rattle.mutator_core.proofs.Regions.{stays-later}
use Rattle.std.specs.Prelude.{Option, Some, None, slice_get}
use Rattle.ideal_heap.specs.Ideal.{IdealHeap}
use Rattle.ideal_heap.specs.Runs.{Entry, entry}
use Rattle.mutator_core.specs.declared.state.LogEntry.{LogEntry}
use Rattle.mutator_core.specs.Machine.{Epoch, first_machine}
use Rattle.mutator_core.specs.Histories.{history}
use Rattle.mutator_core.specs.Logs.{machine_after, heap_after}
use Rattle.mutator_calls.specs.declared.need.Mutator.{Mutator}
use Rattle.mutator_calls.specs.Effects.{Effect}
use Rattle.plain_row.specs.declared.plain_row.PlainRow.{PlainRow}
use Rattle.local_allocators.specs.declared.local_seat.LocalSeat.{LocalSeat}
use Rattle.block_regions.specs.declared.block_notes.BlockNote.{BlockNote}
use Rattle.plain_row.specs.Rows.{address_at, mutator_number, births_of}
use Rattle.local_allocators.specs.Seats.{ticket_of, block_of}
use Rattle.heap_users.specs.Users.{mutator_state}
use Rattle.block_regions.specs.Notes.{IsRegionOf}
use Rattle.local_allocators.specs.MutatorRegions.{KeepsRegions}
use Rattle.local_allocators.specs.NotedRegions.{region_of, region_noted, regions_of}
use Rattle.block_regions.proofs.Lists.{get-some, get-below}
use Rattle.plain_row.proofs.Turns as turns
use Rattle.plain_row.specs.Steps.{MayStoreUnlogged}
use Rattle.plain_row.specs.Worlds.{IsAt, RowIsBetweenCalls, MayCall, IsAfter, Goes, births_in}
use Rattle.sessions.specs.Plans.{Rules}
use Rattle.plain_world.specs.declared.plain_world.PlainWorld.{PlainWorld}
use Rattle.plain_world.specs.Calls.{IsOpen, HasPlace, LeavesRest, StaysOpen, HasEffect}
use Rattle.mutator_core.proofs.Regions.{history-append}

-- whose turn it is says nothing of the epoch
pub at-turn : (p : Epoch) (i : IdealHeap) (log : List LogEntry) (a : PlainRow) (m : ℕ) → IsAt p i log a → IsAt p i log (record a { turn = m })
at-turn p i log a m at = record {
  epoch = at.epoch;
  heap = at.heap;
  numbers = at.numbers;
  seats = at.seats;
  each = at.each;
  cursors = at.cursors;
  notes = at.notes;
  fill = at.fill;
  fills = at.fills;
  young = at.young;
  allowed = at.allowed;
  lists = record { owned = at.lists.owned; room = at.lists.room; counts = at.lists.counts };
  flags = at.flags;
}

-- the mutators keep their places
pub places-same : (a b : PlainRow) (m : ℕ) (e : Effect) → RowIsBetweenCalls a → Goes (record a { turn = m }) e b
    → (length b.mutators.items ≡ length a.mutators.items) × (map (λ x. x.number) b.mutators.items ≡ map (λ x. x.number) a.mutators.items)
places-same a b m e idle goes =
    let now = goes.steps idle.some.epoch idle.some.ideal idle.some.log (at-turn idle.some.epoch idle.some.ideal idle.some.log a m idle.some.at) in
    let same = now.at.numbers ∙ sym idle.some.at.numbers in (
      sym (length-map b.mutators.items (λ x. x.number)) ∙ ap length same ∙ length-map a.mutators.items (λ x. x.number),
      same,
    )

-- and the plan its rules
pub young-same : (a b : PlainRow) (m : ℕ) (e : Effect) → RowIsBetweenCalls a → Goes (record a { turn = m }) e b → b.young ≡ a.young
young-same a b m e idle goes =
    let now = goes.steps idle.some.epoch idle.some.ideal idle.some.log (at-turn idle.some.epoch idle.some.ideal idle.some.log a m idle.some.at) in
    now.at.young ∙ sym idle.some.at.young

-- the history gains the entries of the effect
pub history-gains : (a b : PlainRow) (m : ℕ) (e : Effect) → Goes (record a { turn = m }) e b → (p : Epoch) (i : IdealHeap) (part : List Entry) → IsAfter p i part a
    → IsAfter p i (part ++ map (λ x. entry (mutator_number (slice_get a.mutators.items m)) x.command x.reply) e.entries) b
history-gains a b m e goes p i part is =
    let more = goes.steps p i is.log (at-turn p i is.log a m is.at) in record {
      log = is.log ++ more.more;
      at = more.at;
      history = history-append p (first_machine p) is.log more.more
          ∙ ap (λ es. es ++ history p (machine_after p is.log) more.more) is.history
          ∙ ap (λ es. part ++ es) more.entries;
    }

pub numbers-mapped : (ms : List Mutator) → map (λ x. x.number) (map mutator_state ms) ≡ map (λ m. m.number) ms
numbers-mapped [] = refl
numbers-mapped (m ∷ ms) = ap (λ ns. m.number ∷ ns) (numbers-mapped ms)

-- the stop word is 0 or the number of a mutator
pub stop-cases : (w : PlainRow) (p : Epoch) (i : IdealHeap) (log : List LogEntry) → IsAt p i log w
    → (word_at (state_of w.row) 0 ≡ 0) ⊎ Contains (numbers_of (map mutator_state w.mutators.items)) (word_at (state_of w.row) 0)
stop-cases w p i log at =
    let same : word_at (state_of w.row) 0 ≡ word_at (heap_after p log) 0 = ap (λ t. word_at t 0) at.heap in
    elim (log-seen p i log at.epoch).stop as (λ _. (word_at (state_of w.row) 0 ≡ 0) ⊎ Contains (numbers_of (map mutator_state w.mutators.items)) (word_at (state_of w.row) 0)) [
      | inl none ↦ inl (same ∙ none)
      | inr raised ↦ inr (subst (λ ns. Contains ns (word_at (state_of w.row) 0)) (sym at.numbers ∙ sym (numbers-mapped w.mutators.items)) (subst (Contains (numbers_of p.mutators)) (sym same) raised.0))
    ]

-- so one that is not 0 is the number of a mutator
pub stop-known : (b : PlainRow) (n : ℕ) → RowIsBetweenCalls b → word_at (state_of b.row) 0 ≡ n → n ≢ 0 → Contains (numbers_of (map mutator_state b.mutators.items)) n
stop-known b n idle is some = elim (stop-cases b idle.some.epoch idle.some.ideal idle.some.log idle.some.at) as (λ _. Contains (numbers_of (map mutator_state b.mutators.items)) n) [
  | inl none ↦ absurd (some (sym is ∙ none))
  | inr known ↦ subst (Contains (numbers_of (map mutator_state b.mutators.items))) is known
]

-- what may be stored without logging is not old and unlogged
pub unbarred : (w : PlainRow) (s : ℕ) → MayStoreUnlogged w s → w.young ≡ true → is_old (state_of w.row) (address_at w s) ≡ true
    → is_unlogged (state_of w.row) (address_at w s) ≡ true → ⊥
unbarred w s (inl none) young old unlogged = let wrong : true ≡ false = sym young ∙ none in cc
unbarred w s (inr (inl none)) young old unlogged = let wrong : true ≡ false = sym old ∙ none in cc
unbarred w s (inr (inr none)) young old unlogged = let wrong : true ≡ false = sym unlogged ∙ none in cc

-- each object stays, with its header
pub objects-after : (a b : PlainRow) (m : ℕ) (e : Effect) → RowIsBetweenCalls a → Goes (record a { turn = m }) e b → (x : ℕ) → IsHeld (state_of a.row) x
    → IsHeld (state_of b.row) x × ((j : ℕ) → j < 3 → word_at (state_of b.row) (x + j) ≡ word_at (state_of a.row) (x + j))
objects-after a b m e idle goes x holds =
    let now = idle.some in
    let more = goes.steps now.epoch now.ideal now.log (at-turn now.epoch now.ideal now.log a m now.at) in
    let later = stays-later now.epoch now.ideal now.log more.more more.at.epoch x (subst (λ (t : HeapState). IsHeld t x) now.at.heap holds) in (
      subst (λ (t : HeapState). IsHeld t x) (sym more.at.heap) later.0,
      λ j few. ap (λ (t : HeapState). word_at t (x + j)) more.at.heap ∙ later.1 j few ∙ sym (ap (λ (t : HeapState). word_at t (x + j)) now.at.heap),
    )

-- births and ticket, by the place of the mutator
pub births-after : (a b : PlainRow) (m : ℕ) (e : Effect) → Goes (record a { turn = m }) e b
    → births_of (slice_get b.mutators.items m) ≡ births_of (slice_get a.mutators.items m) + births_in e.entries
births-after a b m e goes = ap (λ t. births_of (slice_get b.mutators.items t)) (sym goes.turn) ∙ goes.births

pub ticket-after : (a b : PlainRow) (m : ℕ) (e : Effect) → Goes (record a { turn = m }) e b → e.drawn ≡ 0 → e.granted ≡ []
    → ticket_of (slice_get b.seats.items m) ≡ ticket_of (slice_get a.seats.items m)
ticket-after a b m e goes none kept = ap (λ t. ticket_of (slice_get b.seats.items t)) (sym goes.turn) ∙ goes.ticket none kept

pub regions-after : (a b : PlainRow) (m : ℕ) (e : Effect) → Goes (record a { turn = m }) e b → e.moved ≡ false
    → KeepsRegions (regions_of a.notes.items (slice_get a.seats.items m)) (regions_of b.notes.items (slice_get b.seats.items m))
regions-after a b m e goes still = subst (λ t. KeepsRegions (regions_of a.notes.items (slice_get a.seats.items m)) (regions_of b.notes.items (slice_get b.seats.items t))) goes.turn (goes.regions still)

pub regions-same : (notes : List BlockNote) (seat : Option LocalSeat) → KeepsRegions (regions_of notes seat) (regions_of notes seat)
regions-same notes seat = record { classes = λ class. record { block = refl; region = refl }; over = record { block = refl; region = refl } }

-- a region stays if the note of its block does
region-stays : (notes later : List BlockNote) (o : Option ℕ) → ((d : ℕ) → o ≡ Some d → slice_get later d ≡ slice_get notes d) → region_of later o ≡ region_of notes o
region-stays notes later None same = refl
region-stays notes later (Some d) same = ap region_noted (same d refl)

-- of another mutator all stays: number, births and registers, its seat, and its regions
module _ (a b : PlainRow) (m : ℕ) (e : Effect) (idle : RowIsBetweenCalls a) (place : m < length a.mutators.items) (goes : Goes (record a { turn = m }) e b) (k : ℕ) (other : k ≢ m) where
  -- a block that it owns keeps its note
  block-stays : (x : LocalSeat) → slice_get a.seats.items k ≡ Some x → (d : ℕ) → ((q : Mutator) → slice_get a.mutators.items k ≡ Some q → IsRegionOf a.notes.items q.number d)
      → slice_get b.notes.items d ≡ slice_get a.notes.items d
  block-stays x sits d owns =
      let now = idle.some in
      let below : k < length a.seats.items = get-below a.seats.items k x sits in
      let count : length a.seats.items ≡ length a.mutators.items = now.at.seats in
      let theirs = get-some a.mutators.items k (omega arith) in
      let mine = get-some a.mutators.items m place in
      let has = owns theirs.0 theirs.1 in
      goes.foreign d theirs.0.number has.region
      (λ same. other (turns.differ now.epoch now.ideal now.log a now.at k m theirs.0 mine.0 theirs.1 mine.1 (same ∙ ap mutator_number mine.1))) has.note ∙ sym has.note

  seat-keeps : (o : Option LocalSeat) → slice_get a.seats.items k ≡ o → KeepsRegions (regions_of a.notes.items o) (regions_of b.notes.items o)
  seat-keeps None sits = record { classes = λ class. record { block = refl; region = refl }; over = record { block = refl; region = refl } }
  seat-keeps (Some x) sits = let now = idle.some in record {
    classes = λ class. record {
      block = refl;
      region = region-stays a.notes.items b.notes.items (block_of (Some x) class) (λ d there. block-stays x sits d
          (λ q is. ((now.at.cursors k q x is sits).each class d (turns.set-in x.blocks class d there)).0));
    };
    over = record {
      block = refl;
      region = region-stays a.notes.items b.notes.items x.over (λ d there. block-stays x sits d
          (λ q is. let has = now.at.cursors k q x is sits in has.over (has.lined d there) d there));
    };
  }

  pub others-after : (slice_get b.mutators.items k ≡ slice_get a.mutators.items k) × (slice_get b.seats.items k ≡ slice_get a.seats.items k)
      × KeepsRegions (regions_of a.notes.items (slice_get a.seats.items k)) (regions_of b.notes.items (slice_get b.seats.items k))
  others-after = let same = goes.others k other in (
    same.0,
    same.1,
    subst (λ o. KeepsRegions (regions_of a.notes.items (slice_get a.seats.items k)) (regions_of b.notes.items o)) (sym same.1) (seat-keeps (slice_get a.seats.items k) refl),
  )

-- what steps of this effect leave as it was
pub rest-after : {P : Type 0} (rules : Rules) (old new : PlainWorld P) (m : ℕ) (e : Effect) → IsOpen rules old → HasPlace old m
    → Goes (record old.row { turn = m }) e new.row → LeavesRest old m e new
rest-after rules old new m e is_open place goes = record {
  stop = goes.stop;
  budget = goes.budget;
  blocks = goes.blocks;
  births = births-after old.row new.row m e goes;
  ticket = ticket-after old.row new.row m e goes;
  regions = regions-after old.row new.row m e goes;
  others = others-after old.row new.row m e is_open.between_calls place goes;
  objects = objects-after old.row new.row m e is_open.between_calls goes;
}

pub stays-open : {P : Type 0} (rules : Rules) (old new : PlainWorld P) (m : ℕ) (e : Effect) → IsOpen rules old → RowIsBetweenCalls new.row
    → Goes (record old.row { turn = m }) e new.row → StaysOpen rules old new
stays-open rules old new m e is_open idle goes =
    let same = places-same old.row new.row m e is_open.between_calls goes in record {
      is_open = record {
        between_calls = idle;
        fill = goes.fill ∙ is_open.fill;
        young = young-same old.row new.row m e is_open.between_calls goes ∙ is_open.young;
      };
      places = record { count = same.0; numbers = same.1 };
      plan = young-same old.row new.row m e is_open.between_calls goes;
    }

pub has-effect : {P : Type 0} (rules : Rules) (old new : PlainWorld P) (m : ℕ) (e : Effect) → IsOpen rules old → HasPlace old m → MayCall new.row
    → Goes (record old.row { turn = m }) e new.row → HasEffect rules old m e new
has-effect rules old new m e is_open place ready goes = record {
  stays = stays-open rules old new m e is_open ready.between_calls goes;
  history = history-gains old.row new.row m e goes;
  logged = goes.logged;
  granted = record { kind = goes.granted; free = goes.free };
  rest = rest-after rules old new m e is_open place goes;
}
