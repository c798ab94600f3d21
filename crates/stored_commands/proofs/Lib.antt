mod Beside
mod Shorts
mod Parts
pub mod Copies
mod Drawing
pub mod Stretches
