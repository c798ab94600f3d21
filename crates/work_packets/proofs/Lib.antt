pub mod Pieces
pub mod BucketOrder
pub mod Logs
pub mod AwaitedPackets
pub mod DealtPackets
pub mod Ends
pub mod Reached
pub mod Balances
mod Idle
mod Jobs
