-- A heap between two epochs, the moment of a session at which it stands, and its collections.
use Rattle.std.specs.Prelude.{◌≡◌, ℕ, ◌+◌, ◌≤◌, List, map, length}
use Rattle.std.specs.List.{AllByRecursion}
use Rattle.ideal_heap.specs.declared.command.TheConstants.{MAX_MUTATORS}
use Rattle.ideal_heap.specs.Ideal.{empty}
use Rattle.ideal_heap.specs.Runs.{Entry, IsRun}
use Rattle.object_model.specs.Heaps.{heap_state}
use Rattle.object_model.specs.Graphs.{numbers_of, roots_of}
use Rattle.object_model.specs.Objects.{HeapState}
use Rattle.object_model.specs.declared.collect.Collect.{Collect}
use Rattle.object_model.specs.declared.collect.Collect.TheVariants.{Nursery, Full}
use Rattle.sessions.specs.Plans.{Rules}
use Rattle.sessions.specs.Collecting.{IsCollection, Remembers, first_collection}
use Rattle.sessions.specs.Sessions.{Setting, Moment, IsSound, Stopped as EndsPart, birth_count, ideal_at}
use Rattle.collector.specs.Collected.{IsOffered, FillsIf, LeavesFewBlocks}
use Rattle.collector.specs.Tallies.{NotesIf}
use Rattle.collector.specs.declared.outcome.Note.{Note}
use Rattle.heap_users.specs.Users.{mutator_state}
use Rattle.heap_users.specs.Beginnings.{without_stop}
use Rattle.block_regions.specs.Notes.{AreNotes, FillsHoles, FlagsCover}
use Rattle.managed_heap.specs.declared.stopped_heap.StoppedHeap.{StoppedHeap}
use Rattle.managed_heap.specs.declared.stopped_heap.Parts.{Parts}
use Rattle.racing_collector.specs.declared.together.TheConstants.{MAX_WORKERS}

-- The plans that can be managed: mutators fill holes of blocks, and the collections are made that
-- allocations ask for.
pub record IsManaged (r : Rules) : Type 0 where
  pub fill : FillsHoles r.fill
  pub first : (s : HeapState) → Remembers r s → IsOffered r (first_collection r s) s
  pub full : (s : HeapState) → Remembers r s → IsOffered r Full s

-- its parts
abbrev pub parts_of : {P : Type 0} → StoppedHeap P → Parts
parts_of h = record {
  heap = h.heap;
  mutators = h.mutators;
  notes = h.notes;
  roots = h.roots;
  nursery = h.nursery;
  full = h.full;
  workers = h.workers;
}

-- the number of mutators
abbrev pub count_of_mutators : {P : Type 0} → StoppedHeap P → ℕ
count_of_mutators h = length h.mutators.items

-- the number of collections that were made
abbrev pub collections_of : {P : Type 0} → StoppedHeap P → ℕ
collections_of h = h.nursery + h.full

-- What a stopped heap keeps in order: mutators and workers are few, the notes and flags are those of
-- its blocks, and the counts of collections add up to the collection number.
pub record IsHeapInOrder {P : Type 0} (rules : Rules) (h : StoppedHeap P) : Type 0 where
  pub few : count_of_mutators h ≤ MAX_MUTATORS
  pub notes : AreNotes rules.fill (heap_state h.heap) h.notes
  pub flags : FlagsCover rules (heap_state h.heap) h.notes.flags.items
  pub number : (heap_state h.heap).number ≡ collections_of h
  pub some_worker : 1 ≤ h.workers
  pub few_workers : h.workers ≤ MAX_WORKERS

-- Heap, mutators and counts of collections are those of this moment, and the plan and the number of
-- workers those of the setting. Of the traces of the setting only their number matters.
pub record HeapStandsAt {P : Type 0} (rules : Rules) (h : StoppedHeap P) (t : Setting)
    (now : Moment) : Type 0 where
  pub rules_are : t.rules ≡ rules
  pub workers : t.workers ≡ h.workers
  pub blocks : t.blocks ≡ now.heap.blocks
  pub heap : heap_state h.heap ≡ now.heap
  pub mutators : map mutator_state h.mutators.items ≡ now.mutators
  pub nursery : h.nursery ≡ now.nursery
  pub full : h.full ≡ now.full
  pub sound : IsSound t now
  pub run : IsRun empty now.done

-- the moment of a stopped heap after these entries
abbrev pub moment_of : {P : Type 0} → StoppedHeap P → List Entry → Moment
moment_of h done = record {
  heap = heap_state h.heap;
  mutators = map mutator_state h.mutators.items;
  done = done;
  nursery = h.nursery;
  full = h.full;
}

-- The epoch that began with `old` at this moment ran these entries and ended with `new`. No
-- collection was made.
pub record EndsEpoch {P : Type 0} (rules : Rules) (old : StoppedHeap P) (now : Moment)
    (part : List Entry)
    (new : StoppedHeap P) : Type 0 where
  pub run : IsRun (ideal_at now) part
  pub stopped : EndsPart rules (numbers_of now.mutators) (without_stop now.heap) (ideal_at now) part
      (heap_state new.heap)
      (map mutator_state new.mutators.items)
  pub nursery : new.nursery ≡ old.nursery
  pub full : new.full ≡ old.full
  pub workers : new.workers ≡ old.workers

-- It stands at some sound moment of some setting, not always one that a session reaches.
pub record IsStopped {P : Type 0} (rules : Rules) (h : StoppedHeap P) : Type 0 where
  pub order : IsHeapInOrder rules h
  pub setting : Setting
  pub now : Moment
  pub stands : HeapStandsAt rules h setting now

-- the numbers of nursery and full collections after one more of this kind
abbrev pub counted : Collect → ℕ → ℕ → ℕ × ℕ
counted Nursery nursery full = (nursery + 1, full)
counted Full nursery full = (nursery, full + 1)

-- the registers of all mutators
abbrev pub registers_of_heap : {P : Type 0} → StoppedHeap P → List ℕ
registers_of_heap h = roots_of (map mutator_state h.mutators.items)

-- A collection was made and counted, and the note is of it. One worker filled blocks in turn, and
-- where each block was to be evacuated, few are in use. The registers are those that it left, and
-- the notes on blocks and their flags those of its heap. Mutators keep their numbers and births.
pub record HasCollected {P : Type 0} (rules : Rules) (kind : Collect) (old new : StoppedHeap P)
    (note : Note) : Type 0 where
  pub collection : IsCollection rules old.workers kind (heap_state old.heap) (registers_of_heap old)
      (heap_state new.heap)
      (registers_of_heap new)
  pub noted : NotesIf rules.collects rules old.workers kind (heap_state old.heap)
      (registers_of_heap old)
      (heap_state new.heap)
      (registers_of_heap new)
      collection note
  pub fills : FillsIf rules.collects rules old.workers kind (heap_state old.heap)
      (registers_of_heap old)
      (heap_state new.heap)
      (registers_of_heap new)
      collection
  pub blocks : LeavesFewBlocks rules old.workers kind (heap_state old.heap) (heap_state new.heap)
      note
  pub births : map birth_count (map mutator_state new.mutators.items)
      ≡ map birth_count (map mutator_state old.mutators.items)
  pub registers : AllByRecursion (λ u. length u.registers ≡ 16) new.mutators.items
  pub counts : (new.nursery, new.full) ≡ counted kind old.nursery old.full
  pub notes : AreNotes rules.fill (heap_state new.heap) new.notes
  pub flags : FlagsCover rules (heap_state new.heap) new.notes.flags.items
  pub workers : new.workers ≡ old.workers
