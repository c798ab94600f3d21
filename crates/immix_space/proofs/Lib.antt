pub mod SweptObjects
pub mod SweptLines
pub mod MarkedSums
pub mod CandidateSums
pub mod RecyclableBlocks
pub mod LyingObjects
pub mod ExactLines
