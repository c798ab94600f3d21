mod MutatorReplies
mod Sending
mod Lines
mod LivePlaces
mod LiveOrder
mod LiveLists
mod WorkedLives
mod LiveNames
mod LiveLines
mod MapPlaces
mod WorkedReach
mod OneTrace
pub mod Jobs
pub mod Outcomes
pub mod JoinedFiles
pub mod Ends
mod Summaries
