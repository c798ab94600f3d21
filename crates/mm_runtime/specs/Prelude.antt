-- The names of other crates that the contracts cite, passed on from one place. Declares nothing.
pub use Rattle.heap_layout.specs.declared.layout.TheConstants.{MAX_BLOCKS, MIN_BLOCKS}
pub use Rattle.heap_users.specs.Beginnings.{epoch_of}
pub use Rattle.heap_users.specs.Users.{mutator_state}
pub use Rattle.ideal_heap.specs.Commands.{IsValid}
pub use Rattle.ideal_heap.specs.Runs.{is_full, replies_of}
pub use Rattle.managed_heap.specs.Needs.{reply_of}
pub use Rattle.managed_heap.specs.Stopped.{EndsEpoch, HeapStandsAt, IsManaged}
pub use Rattle.managed_heap.specs.declared.stopped_heap.StoppedHeap.{StoppedHeap as Stopped}
pub use Rattle.mm_runtime.specs.Managers.{Closes, ClosesSome, HasEnded, IsAtStop, IsFresh, IsInOrder, IsMutatorOf, IsProgress, IsRunnableTrace, StandsAt, globals_of, left, next_in_trace, replied, traces_of}
pub use Rattle.mm_runtime.specs.Parts.{AnswersMutator, AreGcs, AreNeeds, EndsFor, EndsPart, GetsReply, RunsParts, RunsTrace, causes, is_quiet, raises_stop}
pub use Rattle.mm_runtime.specs.OpenEpochs.{EndsParts, IsEpochOf, MakesEpoch, RepliesSince, RunsAll, RunsToEnd, end_of, seat_of, trace_in}
pub use Rattle.mm_runtime.specs.SeatParts.{HasEndedFor, HasFewBirths, IsPartOf, RunsPartOf, RunsSeat, SeatEndsFor, SeatEndsPart, SeatGetsReply, SeatGoesOn}
pub use Rattle.mm_runtime.specs.Replying.{GetsOk, HasGc, RepliesBelow, is_gc_at, is_meet_at}
pub use Rattle.mm_runtime.specs.Stops.{AddsReply, MatchPlaced, NeedsNext, RepliesAt, RepliesTo, ServesEnd}
pub use Rattle.mm_runtime.specs.declared.progress.Progress.{Progress, Progress as State}
pub use Rattle.mutator_calls.specs.declared.need.Need.{Need}
pub use Rattle.object_model.specs.Graphs.{roots_of}
pub use Rattle.object_model.specs.Heaps.{heap_state}
pub use Rattle.object_model.specs.Lawful.{AreRoots}
pub use Rattle.object_model.specs.Objects.{global_at as global_word_at, size_of}
pub use Rattle.managed_heap.specs.Worlds.{HasPlace, IsOpen, births_at, mutator_number_at, places_of, stop_word}
pub use Rattle.mutator_rule.specs.declared.seat.MutatorSeat.{MutatorSeat as Seat}
pub use Rattle.racing_world.specs.Calls.{IsFresh as IsFreshSeat, epoch_of_world, has_raised, number_of}
pub use Rattle.racing_world.specs.Closing.{EndsEpoch as ClosesWorld}
pub use Rattle.racing_mutator.specs.RacingSeats.{MayCall}
pub use Rattle.sessions.specs.Fitting.{Fits}
pub use Rattle.sessions.specs.Plans.{Rules}
pub use Rattle.sessions.specs.Sessions.{CollectsFor, IsEpoch, IsWhole, Meets, Moment, RunsPart, ServesAll, ServesNeed, Setting, first_moment, is_at_gc, is_at_meet, is_at_need, is_waiting, traced_mutators}
pub use Rattle.stored_commands.specs.Lists.{lists_of}
pub use Rattle.ideal_heap.specs.declared.command.Command.TheVariants as command_is
pub use Rattle.ideal_heap.specs.declared.reply.Reply.TheVariants as reply_is
pub use Rattle.mm_runtime.specs.declared.progress.PartEnd.TheVariants as end_is
