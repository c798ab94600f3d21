pub mod Histories
pub mod Allocations
pub mod Epochs
pub mod Prelude
