pub mod Seats
pub mod MutatorRegions
pub mod NotedRegions
pub mod NotedSeats
pub mod Placing
pub mod OwnRooms
