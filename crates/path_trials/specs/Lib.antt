pub mod Operating
pub mod Seats
