pub mod Sizes
pub mod HeapCounts
