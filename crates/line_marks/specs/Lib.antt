pub mod Bits
pub mod LineHoles
