pub mod Adding
pub mod Trios
