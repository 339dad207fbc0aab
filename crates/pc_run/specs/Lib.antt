pub mod Alone
pub mod Reading
pub mod Runs
pub mod Shares
pub mod Together
pub mod Words
