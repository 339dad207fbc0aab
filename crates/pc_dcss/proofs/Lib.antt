pub mod Staying
pub mod Known
pub mod Learnt
pub mod Loads
pub mod Takes
pub mod Puts
pub mod Stored
pub mod Meeting
mod WorkedPublication
