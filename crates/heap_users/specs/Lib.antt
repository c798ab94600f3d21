pub mod Users
pub mod Beginnings
