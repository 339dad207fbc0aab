pub mod Adding
pub mod Crews
pub mod Flat
pub mod RaceWords
