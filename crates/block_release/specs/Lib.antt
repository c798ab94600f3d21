pub mod Released
pub mod Knowing
pub mod Prelude
