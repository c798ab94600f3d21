pub mod Buckets
pub mod Packets
pub mod Steps
pub mod Awaiting
pub mod Shares
