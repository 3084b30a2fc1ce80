pub mod HeaderPlaces
pub mod RefusalPlaces
pub mod RoomEnough
pub mod Unpacked
