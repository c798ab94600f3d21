pub mod Words
pub mod Orders
pub mod Reader
pub mod Spelling
