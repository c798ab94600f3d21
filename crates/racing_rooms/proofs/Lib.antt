pub mod Known
pub mod BlockCodes
pub mod RoomsKept
pub mod KeptHoles
pub mod OwnRegions
pub mod RoomsNoted
pub mod OwnSeen
pub mod RoomLaws
