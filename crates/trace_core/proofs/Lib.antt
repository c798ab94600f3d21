pub mod Puts
pub mod Objects
pub mod Places
pub mod Steps
mod ObjectEvents
pub mod FirstInvariant
mod ObjectLaw
mod Sides
mod SideEvents
mod SideLaw
mod Reasons
pub mod Law
mod Once
pub mod TakenStay
pub mod Clauses
pub mod Finished
pub mod Rows
pub mod Releasable
pub mod AppendedEvents
pub mod CountedRights
pub mod Idle
pub mod BlocksLeft
pub mod CopyEvents
pub mod WithoutLines
pub mod FirstView
pub mod ScanRights
mod WorkedTraces
pub mod SetUnlogs
pub mod Begun
pub mod LineBits
pub mod DecidingBits
pub mod SameObjects
pub mod ClaimRights
pub mod CopyRights
pub mod AskRights
pub mod TakenBlocks
pub mod HeaderWords
pub mod LastValues
