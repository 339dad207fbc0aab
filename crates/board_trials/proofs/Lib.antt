pub mod OwnSteps
pub mod FirstTwo
pub mod Loosely
pub mod Published
pub mod Seated
pub mod Slices
pub mod Staying
mod Opened
mod Written
