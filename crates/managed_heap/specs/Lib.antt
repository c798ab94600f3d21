pub mod Stopped
pub mod Spots
pub mod Needs
pub mod Prelude
pub mod Worlds
