pub mod Forms
pub mod Made
pub mod Stretches
pub mod Lists
