pub mod RunSweeps
pub mod Stores
pub mod Sweeping
pub mod Touches
pub mod WordSweeps
