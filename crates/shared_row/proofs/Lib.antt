mod Names
pub mod Values
pub mod Leases
pub mod Reached
pub mod Walked
pub mod Sent
pub mod Fitting
mod Glanced
mod Drawing
mod Copied
