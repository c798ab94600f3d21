pub mod Fields
pub mod BitWords
