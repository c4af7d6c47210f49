pub mod Rooms
pub mod Tried
