pub mod Rule
pub mod Ends
pub mod Served
pub mod Seats
