pub mod Seats
pub mod Ends
pub mod WorkedRaces
