pub mod AddressSets
pub mod Places
pub mod Walks
