pub mod ChangedWords
pub mod FreedRuns
pub mod RunSpans
pub mod SweptRuns
pub mod LivingBits
pub mod SweptWords
pub mod BitCounts
pub mod SweptBlocks
pub mod BlockSweeps
mod DifferingWords
pub mod AddedLines
pub mod TouchedLines
pub mod TouchedWords
pub mod LineEnds
pub mod LineStarts
pub mod SweptApart
pub mod LargeRuns
