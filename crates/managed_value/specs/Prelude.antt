-- The names of other crates that the contracts cite, passed on from one place. Declares nothing.
pub use Rattle.collector.specs.Tallies.{capped}
pub use Rattle.heap_layout.specs.declared.layout.TheConstants.{MAX_BLOCKS, MIN_BLOCKS}
pub use Rattle.ideal_heap.specs.Commands.{is_new}
pub use Rattle.ideal_heap.specs.Ideal.{IdealHeap, empty, step}
pub use Rattle.ideal_heap.specs.Runs.{Entry, IsRun, heap_after_run, is_full}
pub use Rattle.ideal_heap.specs.declared.command.Command.{Command}
pub use Rattle.ideal_heap.specs.declared.command.TheConstants.{MAX_MUTATORS, REGISTERS}
pub use Rattle.ideal_heap.specs.declared.reply.Reply.{Reply}
pub use Rattle.managed_heap.specs.Needs.{reply_of}
pub use Rattle.managed_heap.specs.Stopped.{IsManaged, IsStopped, count_of_mutators as stopped_count}
pub use Rattle.managed_value.specs.Allocations.{AllocatesInEpoch, CollectsAll, CollectsAtStop, FindsNoRoom}
pub use Rattle.managed_value.specs.Allocations.{HeapMayAllocate, IsEmpty, Makes, MatchAnswer, MatchRefused, RepliesFull}
pub use Rattle.managed_value.specs.Allocations.{RunsOut, RunsOutAtStop, ServesAtStop, StopsFor, kept_by, used_with}
pub use Rattle.managed_value.specs.Epochs.{BeginsWith, EndsWith}
pub use Rattle.managed_value.specs.Histories.{AddsHeapEntry, EntersCall, HasEntries, HeapHasPlace, IsAsBeforeOrLost}
pub use Rattle.managed_value.specs.Histories.{IsLost, IsUsable, KeepsEntries, StandsFor, collections_made}
pub use Rattle.managed_value.specs.Histories.{heap_births_at, mutators_of_heap, shape_of_object, words_used}
pub use Rattle.managed_value.specs.declared.managed.ManagedHeap.{ManagedHeap}
pub use Rattle.mutator_calls.specs.Allocating.{IsNeedOf, MatchAllocated}
pub use Rattle.mutator_calls.specs.declared.need.Mutator.{Mutator as User}
pub use Rattle.object_model.specs.Graphs.{Represents}
pub use Rattle.object_model.specs.Objects.{size_of}
pub use Rattle.managed_heap.specs.Worlds.{heap_of_world, mutators_of_world, empty_seat, PlainWorld, PlainWorld as World}
pub use Rattle.programs.specs.Growth.{IsGrown}
pub use Rattle.programs.specs.Lists.{heap_after}
pub use Rattle.sessions.specs.Fitting.{free_of}
pub use Rattle.sessions.specs.Plans.{Rules}
pub use Rattle.ideal_heap.specs.declared.command.Command.TheVariants as command
pub use Rattle.ideal_heap.specs.declared.reply.Reply.TheVariants as reply
