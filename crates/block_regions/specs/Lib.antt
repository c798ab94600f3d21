pub mod Elements
pub mod Regions
pub mod Notes
