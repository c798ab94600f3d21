pub mod TokenRights
pub mod Tracers
pub mod Prelude
