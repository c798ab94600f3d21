pub mod Lists
pub mod Language
