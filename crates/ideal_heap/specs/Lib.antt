pub mod Names
pub mod Commands
pub mod Ideal
pub mod Runs
pub mod Reach
pub mod Tables
pub mod Plain
