pub mod Items
pub mod Accounts
pub mod Working
pub mod Raced
pub mod Together
