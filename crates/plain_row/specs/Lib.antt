pub mod Rows
pub mod Worlds
pub mod Steps
pub mod Changes
pub mod SeatLaws
