pub mod Collections
pub mod FilledBlocks
pub mod HeldRoom
pub mod LargeBlocks
pub mod OtherObjects
pub mod SizeTests
pub mod Weights
