pub mod SeatShares
mod ObjectReads
mod Copyings
pub mod FieldScans
pub mod SeatEnds
mod TokensTaken
mod GlobalSets
mod MarkedLines
mod WorkedRaces
pub mod Crossing
