-- The names that the contracts of plain_world cite, passed on from one place. Declares nothing.
pub use Rattle.block_regions.specs.Notes.{AreNotes, AreUnowned, FlagsCover, GivesBackBlock, HasNotes, IsLeastLeft}
pub use Rattle.block_regions.specs.Notes.{ListsOwned}
pub use Rattle.heap_layout.specs.Blocks.{is_block_code}
pub use Rattle.heap_users.specs.Beginnings.{MayUse, epoch_of, without_stop}
pub use Rattle.heap_users.specs.Users.{mutator_state}
pub use Rattle.ideal_heap.specs.Ideal.{IdealHeap}
pub use Rattle.ideal_heap.specs.Runs.{Entry, IsRun, heap_after_run}
pub use Rattle.ideal_heap.specs.declared.command.TheConstants.{REGISTERS}
pub use Rattle.ideal_heap.specs.declared.reply.Reply.{Reply}
pub use Rattle.mutator_calls.specs.Allocating.{IsCause, IsNeedOf, MatchAllocated}
pub use Rattle.mutator_calls.specs.Effects.{raises}
pub use Rattle.mutator_calls.specs.Stopping.{stop_of}
pub use Rattle.mutator_core.specs.Closing.{GivesBack}
pub use Rattle.mutator_core.specs.Guards.{allowance}
pub use Rattle.mutator_core.specs.Machine.{Epoch}
pub use Rattle.mutator_core.specs.Tickets.{tickets_in}
pub use Rattle.object_model.specs.Graphs.{Represents, numbers_of}
pub use Rattle.object_model.specs.Heaps.{heap_state}
pub use Rattle.object_model.specs.Lawful.{IsWellFormed}
pub use Rattle.object_model.specs.Objects.{IsHeld, block_word, is_unlogged, nums_at, refs_at, size_of, state_of}
pub use Rattle.plain_world.specs.Calls.{AddsEntries, Allocates, EntersCommand, EntersStore, HasEffect, HasHistory}
pub use Rattle.plain_world.specs.Calls.{HasNoRoom, HasPlace, IsOldUnlogged, IsOpen, IsUnchanged, Logs, Refuses}
pub use Rattle.plain_world.specs.Calls.{StaysOpen, births_at, books_at, budget_word, epoch_allowance, fill_of}
pub use Rattle.plain_world.specs.Calls.{heap_of_world, is_generational, mutators_of_world, places_of, register_in}
pub use Rattle.plain_world.specs.Calls.{stop_word, ticket_at}
pub use Rattle.plain_world.specs.EmptySeats.{empty_seat}
pub use Rattle.plain_world.specs.Endings.{GrantsWithTickets}
pub use Rattle.sessions.specs.Collecting.{Remembers}
pub use Rattle.sessions.specs.Fitting.{free_of}
pub use Rattle.sessions.specs.Plans.{Rules}
pub use Rattle.sessions.specs.Sessions.{IsOfPart, Stopped}
pub use Rattle.ideal_heap.specs.declared.command.Command.TheVariants as commands
pub use Rattle.ideal_heap.specs.declared.reply.Reply.TheVariants as replies
