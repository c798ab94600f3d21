mod Sides
mod PutBits
mod Changes
pub mod BitWords
