pub mod Calls
pub mod EmptySeats
pub mod Endings
pub mod Prelude
pub mod Rows
