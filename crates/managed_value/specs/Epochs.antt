-- The end of an epoch of a managed heap, and the next one's beginning.
use Rattle.std.specs.Prelude.{◌≡◌, ℕ, List, Some, map, slice_get}
use Rattle.ideal_heap.specs.Ideal.{IdealHeap}
use Rattle.ideal_heap.specs.Runs.{Entry}
use Rattle.object_model.specs.Heaps.{heap_state}
use Rattle.object_model.specs.Graphs.{numbers_of}
use Rattle.sessions.specs.Plans.{Rules}
use Rattle.sessions.specs.Sessions.{Setting, Moment, Stopped}
use Rattle.mutator_core.specs.Machine.{Epoch}
use Rattle.mutator_core.specs.Closing.{GivesBack}
use Rattle.heap_users.specs.Users.{mutator_state}
use Rattle.heap_users.specs.Beginnings.{without_stop}
use Rattle.managed_heap.specs.Worlds.{births_of, PlainWorld, heap_of_world, mutators_of_world, HasHistory}
use Rattle.managed_heap.specs.declared.stopped_heap.StoppedHeap.{StoppedHeap}
use Rattle.managed_heap.specs.Stopped.{IsStopped, HeapStandsAt, count_of_mutators as stopped_count}
use Rattle.managed_value.specs.declared.managed.ManagedHeap.{ManagedHeap}
use Rattle.managed_value.specs.Histories.{IsUsable, HasEntries, mutators_of_heap, heap_births_at}

-- the number of objects that the mutator at a place of a stopped heap has allocated
abbrev pub stopped_births : {P : Type 0} → StoppedHeap P → ℕ → ℕ
stopped_births s m = births_of (slice_get s.mutators.items m)

-- The epoch of a world ended with this stopped heap: the mutators gave back their blocks. Each
-- object is where it was, and each register holds what it held.
pub record ClosesWorld {P : Type 0} (w : PlainWorld P) (s : StoppedHeap P) : Type 0 where
  pub stopped : (p : Epoch) (i : IdealHeap) (part : List Entry) → HasHistory w p i part
      → Stopped p.rules (numbers_of p.mutators) p.before i part (heap_state s.heap)
      (map mutator_state s.mutators.items)
  pub gives : GivesBack (heap_of_world w) (heap_state s.heap)
  pub registers : map mutator_state s.mutators.items ≡ mutators_of_world w

-- A stop: the epoch ended with this stopped heap. It stands after the entries of the heap, and adds
-- none.
pub record EndsWith {P : Type 0} (rules : Rules) (old : ManagedHeap P) (s : StoppedHeap P)
    : Type 0 where
  pub stopped : IsStopped rules s
  pub closes : (w : PlainWorld P) → old.world ≡ Some w → ClosesWorld w s
  pub stands : (es : List Entry) → HasEntries rules old es
      → (t : Setting) × (now : Moment) × (now.done ≡ es) × HeapStandsAt rules s t now
  pub places : stopped_count s ≡ mutators_of_heap old
  pub births : (m : ℕ) → stopped_births s m ≡ heap_births_at old m
  pub nursery : s.nursery ≡ old.nursery
  pub full : s.full ≡ old.full
  pub workers : s.workers ≡ 1

-- An epoch began with this stopped heap. The heap has the entries after which that stood.
pub record BeginsWith {P : Type 0} (rules : Rules) (s : StoppedHeap P) (new : ManagedHeap P)
    : Type 0 where
  pub usable : IsUsable rules new
  pub entries : (t : Setting) (now : Moment) → HeapStandsAt rules s t now
      → HasEntries rules new now.done
  pub places : mutators_of_heap new ≡ stopped_count s
  pub births : (m : ℕ) → heap_births_at new m ≡ stopped_births s m
  pub nursery : new.nursery ≡ s.nursery
  pub full : new.full ≡ s.full
  pub heap : (w : PlainWorld P) → new.world ≡ Some w
      → heap_of_world w ≡ without_stop (heap_state s.heap)
  pub registers : (w : PlainWorld P) → new.world ≡ Some w
      → mutators_of_world w ≡ map mutator_state s.mutators.items
