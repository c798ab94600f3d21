pub mod EpochFacts
pub mod ForeignBlocks
pub mod OwnedLists
pub mod LogSteps
pub mod LogStep
pub mod EntriesMade
pub mod Allocated
pub mod Turns
pub mod NewObjects
pub mod NewObjectCalls
pub mod LoadSteps
pub mod StopWord
pub mod TicketDrawn
pub mod RoomOffered
pub mod BlocksOwned
pub mod GoesWithBlock
pub mod RegionsWithoutRoom
pub mod HolesFound
pub mod StoreSteps
pub mod LoggedStores
pub mod RoomRead
pub mod SeatRead
mod FlaggedBlocks
mod FlaggedStores
