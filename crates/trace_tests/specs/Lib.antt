pub mod Blocks
pub mod Tokens
pub mod Parts
