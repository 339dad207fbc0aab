pub mod Racing
pub mod Rooms
