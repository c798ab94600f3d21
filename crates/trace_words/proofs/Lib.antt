pub mod Pooled
pub mod RuleSteps
pub mod ClaimSteps
pub mod CopySteps
pub mod ScanSteps
pub mod Rooms
pub mod SeatSteps
pub mod OneShare
pub mod TraceEnds
pub mod WorkedSteps
pub mod CrowdedSteps
mod Racing
