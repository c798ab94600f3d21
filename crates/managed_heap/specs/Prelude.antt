-- The names of other crates that the contracts cite, passed on from one place. Declares nothing.
pub use Rattle.block_regions.specs.Notes.{AreNotes, FillsHoles, FlagsCover, NoneIsLogged, PlacesInBlock, PlacesRun}
pub use Rattle.block_sweeps.specs.Sweeping.{AreApart}
pub use Rattle.collector.specs.Collected.{IsOffered}
pub use Rattle.collector.specs.declared.outcome.Note.{Note}
pub use Rattle.heap_layout.specs.Zones.{IsRowOf}
pub use Rattle.heap_layout.specs.declared.block.Kind.{Kind}
pub use Rattle.heap_users.specs.Beginnings.{MayUse}
pub use Rattle.heap_users.specs.Users.{mutator_state}
pub use Rattle.ideal_heap.specs.Runs.{Entry}
pub use Rattle.ideal_heap.specs.declared.command.TheConstants.{MAX_MUTATORS}
pub use Rattle.managed_heap.specs.Needs.{AddsBirths, AddsNeed, IfRefused, IsNoteOfLast, MakesRoomAtStop, MayAllocate}
pub use Rattle.managed_heap.specs.Needs.{MutatorAllocatesAt, NotesLast, Settles, WritesNeed, born_in}
pub use Rattle.managed_heap.specs.Spots.{IsPlaceForSize, IsSpot, RelistsSpot, TakesSpot, TakesSpotBlock}
pub use Rattle.managed_heap.specs.Stopped.{EndsEpoch, HasCollected, HeapStandsAt, IsHeapInOrder, IsManaged, IsStopped}
pub use Rattle.managed_heap.specs.Stopped.{collections_of, counted, moment_of, parts_of}
pub use Rattle.managed_heap.specs.declared.stopped_heap.StoppedHeap.{StoppedHeap}
pub use Rattle.mutator_calls.specs.declared.need.Mutator.{Mutator}
pub use Rattle.object_model.specs.Births.{MakesRun}
pub use Rattle.object_model.specs.Graphs.{roots_of}
pub use Rattle.object_model.specs.Heaps.{heap_state}
pub use Rattle.object_model.specs.Lawful.{IsReadableBlock}
pub use Rattle.object_model.specs.Objects.{HeapState, size_of, state_of}
pub use Rattle.object_model.specs.declared.collect.Collect.TheVariants.{Full, Nursery}
pub use Rattle.plan_api.specs.Counting.{session_counts}
pub use Rattle.sessions.specs.Collecting.{Remembers}
pub use Rattle.sessions.specs.Fitting.{Fits, IsFreeRun, counts_of}
pub use Rattle.sessions.specs.Plans.{Immix, MarkSweep, NoGc, Rules, SemiSpace, GenCopy, StickyImmix, rules_of}
pub use Rattle.sessions.specs.Sessions.{MakesCollection, Moment, Places, ServesNeed, Setting, birth_count, first_moment}
pub use Rattle.heap_layout.specs.declared.block.Kind.TheVariants as kinds
pub use Rattle.managed_heap.specs.declared.place.Placed.TheVariants as placed
