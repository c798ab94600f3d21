pub mod Effects
pub mod Accesses
pub mod Allocating
pub mod Stopping
