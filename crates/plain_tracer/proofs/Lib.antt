mod LastBlocks
pub mod ListedObjects
mod TracedRows
mod TakenRoom
mod ObjectsRead
mod ClaimedObjects
mod Claimed
mod AskedTargets
mod BitStores
mod CopiedObjects
mod MarkedWords
mod LineMarks
mod BeginningTracer
pub mod FollowedReferences
mod StoredWords
pub mod ReachedTokens
mod ScanSteps
mod FieldScans
pub mod TracedObjects
