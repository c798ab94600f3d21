mod EvacuatedKinds
mod Given
mod CollectedObjects
mod CollectedBlocks
mod StillFree
mod Turns
mod WholeCollections
mod Prepared
pub mod WholeNotes
mod ServedRoots
mod ServedItems
mod HandedOn
mod RootLists
mod FirstItems
pub mod CountedNotes
mod ServesAppend
mod RunningPackets
pub mod ItemCounts
pub mod AwaitedSteps
pub mod TallySums
mod NumberSums
mod CopiedWords
mod FewBlocks
mod SessionBlocks
pub mod LeftFalls
pub mod NextTally
pub mod OneWorker
pub mod FinishedTraces
mod TwoBuckets
pub mod Offered
pub mod ItsLines
mod Crossing
