pub mod Rooms
pub mod NoRoom
pub mod OwnHoles
