-- The names of rows that values above a world cite, passed on from one place. Declares nothing.
pub use Rattle.local_allocators.specs.Seats.{ticket_of}
pub use Rattle.local_allocators.specs.declared.local_seat.LocalSeat.{LocalSeat}
pub use Rattle.plain_row.specs.Rows.{births_of, mutator_number, registers_of}
pub use Rattle.plain_row.specs.Worlds.{births_in, is_in_list, stop_after}
