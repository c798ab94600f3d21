-- The names of worlds that values above a managed heap cite, passed on from one place. Declares nothing.
pub use Rattle.plain_world.specs.Calls.{AddsEntries, AddsEntry, Allocates, Grants, HasEffect, HasHistory, HasNoRoom}
pub use Rattle.plain_world.specs.Calls.{HasPlace, IsOpen, IsUnchanged, LeavesRest, Refuses, SamePlaces, StaysOpen}
pub use Rattle.plain_world.specs.Calls.{births_at, books_at, budget_word, epoch_allowance, heap_of_world}
pub use Rattle.plain_world.specs.Calls.{is_generational, mutator_number_at, mutators_of_world, places_of, register_in}
pub use Rattle.plain_world.specs.Calls.{stop_word, ticket_at}
pub use Rattle.plain_world.specs.EmptySeats.{empty_seat}
pub use Rattle.plain_world.specs.Endings.{GrantsWithTickets}
pub use Rattle.plain_world.specs.declared.plain_world.PlainWorld.{PlainWorld}
pub use Rattle.plain_world.specs.Rows.{LocalSeat, births_in, births_of, is_in_list, mutator_number, registers_of}
pub use Rattle.plain_world.specs.Rows.{stop_after, ticket_of}
