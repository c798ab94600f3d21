pub mod Tails
pub mod PlacedSmallObjects
pub mod Histories
pub mod EmptyHeapFits
pub mod Holes
pub mod CountedCollections
pub mod HoleKinds
pub mod HoleStarts
pub mod HoleRooms
pub mod WorkedFits
mod Nurseries
pub mod Soundness
pub mod CollectionLaws
pub mod PlacedLargeObjects
mod Levels
mod MeetRounds
pub mod Orders
pub mod GrowingHistories
pub mod WorkedCollecting
pub mod CollectionsOfPlans
pub mod WrongCollections
pub mod EpochParts
pub mod BirthPlaces
pub mod StopSteps
pub mod PlacedObjects
mod SoundMoments
mod GcSessions
pub mod SameStates
pub mod CollectedMoments
