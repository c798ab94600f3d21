pub mod Numbers
pub mod Lists
pub mod Steps
pub mod Loops
