pub mod PackingLaws
pub mod Statuses
pub mod Words
