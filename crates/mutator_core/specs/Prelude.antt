-- The names that the contracts of mutator_core cite, passed on from one place. Declares nothing.
pub use Rattle.heap_layout.specs.Zones.{Globals, IsAddress, StartBits, block_at, first}
pub use Rattle.ideal_heap.specs.Ideal.{IdealHeap, empty}
pub use Rattle.ideal_heap.specs.Names.{name}
pub use Rattle.ideal_heap.specs.Runs.{IsRun, entry, heap_after_run}
pub use Rattle.ideal_heap.specs.declared.command.Command.{Command}
pub use Rattle.mutator_core.specs.Closing.{GivesBack}
pub use Rattle.mutator_core.specs.Epochs.{EpochMayBegin}
pub use Rattle.mutator_core.specs.Examples.{barrier_events, birth_events, empty_epoch, load_log, log_of, mixed_log}
pub use Rattle.mutator_core.specs.Examples.{old_object_epoch, separate_events, share_events, small_epoch}
pub use Rattle.mutator_core.specs.Examples.{used_block_epoch}
pub use Rattle.mutator_core.specs.Guards.{BeginsRegion, HasTicket, IsPlaceOfMutator, allowance}
pub use Rattle.mutator_core.specs.Histories.{IsLog, entries_of, entry_of, history, reply_in}
pub use Rattle.mutator_core.specs.Logs.{AreBetweenCalls, HasAvailable, HasRaisedStop, IsEpochLog, IsListed, IsOwnedBy}
pub use Rattle.mutator_core.specs.Logs.{IsStoppedAfter, IsTaken, IsUnpublishedWord, IsUntaken, heap_after, history_of}
pub use Rattle.mutator_core.specs.Logs.{local_after_log, machine_after, mutators_after, sum_after}
pub use Rattle.mutator_core.specs.Machine.{Epoch, first_machine}
pub use Rattle.mutator_core.specs.Seen.{HasSeenUsed, IsLoaded, IsSeen}
pub use Rattle.mutator_core.specs.Tickets.{allowed_to, drawn_by, smaller, taken_by, tickets_below}
pub use Rattle.mutator_core.specs.declared.state.Event.{Event}
pub use Rattle.mutator_core.specs.declared.state.Extent.{Extent}
pub use Rattle.mutator_core.specs.declared.state.Loaded.{Loaded}
pub use Rattle.mutator_core.specs.declared.state.LogEntry.{LogEntry}
pub use Rattle.mutator_core.specs.declared.state.OwnedBlock.{OwnedBlock}
pub use Rattle.object_model.specs.BitWords.{bit_word}
pub use Rattle.object_model.specs.Changes.{ClearsUnlog, ObjectsStay, SetsPin}
pub use Rattle.object_model.specs.Graphs.{MutatorState, Represents, new_mutator, register_at, with_register}
pub use Rattle.object_model.specs.Lawful.{FreeBlockIsClear, IsWellFormed, LineBitsAreExact}
pub use Rattle.object_model.specs.Objects.{HasKind, HeapState, IsHeld, IsInExtent, empty_heap, global_at, is_pinned}
pub use Rattle.object_model.specs.Objects.{is_unlogged, name_at, num_at, nums_at, owner_at, ref_at, refs_at, size_of}
pub use Rattle.object_model.specs.Objects.{with_words, word_at}
pub use Rattle.object_model.specs.Steps.{TakesStep}
pub use Rattle.sessions.specs.Collecting.{Remembers}
pub use Rattle.sessions.specs.Fitting.{free_of}
pub use Rattle.sessions.specs.Plans.{NoGc, Plan, rules_of}
pub use Rattle.sessions.specs.Sessions.{IsOfPart}
pub use Rattle.heap_layout.specs.declared.block.Kind.TheVariants as kinds
pub use Rattle.ideal_heap.specs.declared.command.Command.TheVariants as commands
pub use Rattle.ideal_heap.specs.declared.reply.Reply.TheVariants as replies
pub use Rattle.mutator_core.specs.declared.state.Event.TheVariants as event
