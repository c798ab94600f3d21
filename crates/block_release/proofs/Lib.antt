mod Metadata
mod Alike
pub mod KeptBlocks
mod Releases
mod Bare
mod Beside
mod Releasables
mod Steps
pub mod InOrder
mod BlockReads
mod UnlogBits
mod MarkedBlocks
mod SweptBlocks
mod EvacuationFlags
pub mod Spans
pub mod Fates
pub mod ReleasedBlocks
pub mod ReleasedObjects
pub mod LawfulReleases
mod ReleaseLoop
mod Numbers
mod MarkedLines
