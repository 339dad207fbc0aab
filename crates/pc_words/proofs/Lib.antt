pub mod Statuses
pub mod Words
mod Worked
