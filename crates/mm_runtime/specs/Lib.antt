pub mod Managers
pub mod Parts
pub mod SeatParts
pub mod OpenEpochs
pub mod Stops
pub mod Replying
pub mod Prelude
