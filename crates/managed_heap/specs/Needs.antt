-- What a stop does for an object that no mutator could allocate.
use Rattle.std.specs.Prelude.{◌≡◌, ◌≢◌, ℕ, ◌+◌, ◌<◌, ◌≤◌, ◌^◌, ◌⊎◌, Option, None, Some, List, [], ◌∷◌, ◌++◌, length}
use Rattle.std.specs.Prelude.{slice_get, slice_set}
use Rattle.ideal_heap.specs.declared.command.Command.TheVariants as c
use Rattle.ideal_heap.specs.declared.reply.Reply.{Reply}
use Rattle.ideal_heap.specs.declared.reply.Reply.TheVariants as r
use Rattle.ideal_heap.specs.declared.name.Name.{Name}
use Rattle.ideal_heap.specs.Commands.{IsValid}
use Rattle.ideal_heap.specs.Names.{name}
use Rattle.ideal_heap.specs.Runs.{entry}
use Rattle.heap_layout.specs.Zones.{block_start}
use Rattle.object_model.specs.Heaps.{heap_state}
use Rattle.object_model.specs.Objects.{size_of}
use Rattle.object_model.specs.declared.collect.Collect.{Collect}
use Rattle.object_model.specs.declared.collect.Collect.TheVariants.{Nursery, Full}
use Rattle.sessions.specs.Plans.{Rules}
use Rattle.sessions.specs.Fitting.{Fits}
use Rattle.sessions.specs.Collecting.{first_collection}
use Rattle.sessions.specs.Sessions.{Setting, Moment, MakesCollection, FirstTry, Places, OnlyReplies, refused_entry}
use Rattle.collector.specs.declared.outcome.Note.{Note}
use Rattle.block_regions.specs.Elements.{ChangesAt}
use Rattle.block_regions.specs.Notes.{AreNotes, FlagsCover}
use Rattle.mutator_calls.specs.declared.need.Mutator.{Mutator}
use Rattle.mutator_calls.specs.declared.need.Need.{Need}
use Rattle.managed_heap.specs.declared.stopped_heap.StoppedHeap.{StoppedHeap}
use Rattle.managed_heap.specs.declared.spot.Spot.{Spot}
use Rattle.managed_heap.specs.declared.place.Placed.{Placed}
use Rattle.managed_heap.specs.declared.place.Placed.TheVariants as placed
use Rattle.managed_heap.specs.Stopped.{collections_of, count_of_mutators, HasCollected, HeapStandsAt}
use Rattle.managed_heap.specs.Spots.{WritesAt}

-- mutator m, counted from 1, may allocate the object of this need: the need is within the limits,
-- and so are its births
pub record MayAllocate {P : Type 0} (h : StoppedHeap P) (m : ℕ) (need : Need) : Type 0 where
  pub least : 1 ≤ m
  pub most : m ≤ count_of_mutators h
  pub valid : IsValid (c.New need.register need.refs need.nums)
  pub births : (k : ℕ) (u : Mutator) → k + 1 ≡ m → slice_get h.mutators.items k ≡ Some u
      → u.births + 1 < 2 ^ 32

-- The collections for a size are made: a nursery collection after which it fits, or a full one,
-- which is the first or follows a nursery one after which it does not fit.
abbrev pub MakesRoomAtStop : Setting → ℕ → Moment → Moment → Type 0
MakesRoomAtStop t size before late =
    ((first_collection t.rules before.heap ≡ Nursery) × MakesCollection t Nursery before late
    × Fits t.rules late.heap size)
    ⊎ ((mid : Moment) × FirstTry t size (first_collection t.rules before.heap) before mid
    × MakesCollection t Full mid late)

-- one more object of the mutator, with its address in register d
abbrev pub with_new_object : Mutator → ℕ → ℕ → Mutator
with_new_object u d address = record u {
  births = u.births + 1;
  registers = slice_set u.registers d address;
}

-- the mutator at place k, counted from 1 as m, allocates one more object, which gets the name n
pub record MutatorAllocatesAt (old new : List Mutator) (k m d address : ℕ) (n : Name) : Type 0 where
  pub mutator : Mutator
  pub was : slice_get old k ≡ Some mutator
  pub change : ChangesAt old new k (with_new_object mutator d address)
  pub name : n ≡ name m (mutator.births + 1)

-- An object of the need is placed at the spot. It is written and counted.
pub record WritesNeed {P : Type 0} (rules : Rules) (old : StoppedHeap P) (m : ℕ) (need : Need)
    (spot : Spot) (n : Name)
    (new : StoppedHeap P) : Type 0 where
  pub heap : WritesAt rules (heap_state old.heap) spot n need.refs need.nums (heap_state new.heap)
  pub births : (k : ℕ) → k + 1 ≡ m
      → MutatorAllocatesAt old.mutators.items new.mutators.items k m need.register
      (block_start (heap_state old.heap).blocks spot.block + spot.offset) n
  pub notes : AreNotes rules.fill (heap_state new.heap) new.notes
  pub flags : FlagsCover rules (heap_state new.heap) new.notes.flags.items
  pub nursery : new.nursery ≡ old.nursery
  pub full : new.full ≡ old.full
  pub workers : new.workers ≡ old.workers

-- the reply to the mutator
abbrev pub reply_of : Placed → Reply
reply_of (placed.Placed n) = r.New n
reply_of (placed.HeapFull size) = r.Full

-- the number of objects that were allocated
abbrev pub born_in : Placed → ℕ
born_in (placed.Placed n) = 1
born_in (placed.HeapFull size) = 0

-- a fact on the size of an object that was refused
abbrev pub IfRefused : Placed → (ℕ → Type 0) → Type 0
IfRefused (placed.Placed n) Q = Unit {0}
IfRefused (placed.HeapFull size) Q = Q size

-- mutator m, counted from 1, has allocated this many objects more, and the others none; there are
-- as many mutators
pub record AddsBirths (old : List Mutator) (m more : ℕ) (new : List Mutator) : Type 0 where
  pub count : length new ≡ length old
  pub own : (k : ℕ) (u v : Mutator) → k + 1 ≡ m → slice_get old k ≡ Some u
      → slice_get new k ≡ Some v → v.births ≡ u.births + more
  pub others : (k : ℕ) (u v : Mutator) → k + 1 ≢ m → slice_get old k ≡ Some u
      → slice_get new k ≡ Some v → v.births ≡ u.births

-- the one entry of a need of mutator m, with its reply, is added
abbrev pub AddsNeed : ℕ → Need → Placed → Moment → Moment → Type 0
AddsNeed m need what before now = now.done ≡ before.done
    ++ entry m (c.New need.register need.refs need.nums) (reply_of what) ∷ []

-- the object is placed, or it does not fit and is refused
abbrev pub Settles : Setting → ℕ → Need → Placed → Moment → Moment → Type 0
Settles t m need (placed.Placed n) late now = Places t m need.register need.refs need.nums late now
Settles t m need (placed.HeapFull size) late now =
    (Fits t.rules late.heap (size_of need.refs need.nums) → ⊥)
    × OnlyReplies (refused_entry m need.register need.refs need.nums ∷ []) late now

-- Collections were made for a need, and the note is of the last one: it began with `before`, which
-- stands after the entries of `old`, and left `after`.
pub record IsNoteOfLast {P : Type 0} (rules : Rules) (old new : StoppedHeap P) (note : Note)
    : Type 0 where
  pub kind : Collect
  pub before : StoppedHeap P
  pub after : StoppedHeap P
  pub stands : (t : Setting) (now : Moment) → HeapStandsAt rules old t now
      → (at : Moment) × (at.done ≡ now.done) × HeapStandsAt rules before t at
  pub collected : HasCollected rules kind before after note
  pub count : collections_of new ≡ collections_of after
  pub more : collections_of old < collections_of new

-- no collection was made, or the note is of the last one
abbrev pub NotesLast : {P : Type 0} → Rules → StoppedHeap P → StoppedHeap P → Option Note → Type 0
NotesLast rules old new None = collections_of new ≡ collections_of old
NotesLast rules old new (Some note) = IsNoteOfLast rules old new note
