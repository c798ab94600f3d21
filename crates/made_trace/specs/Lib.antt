pub mod Made
pub mod Counts
