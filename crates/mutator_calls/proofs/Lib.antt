pub mod RoomFoundLater
