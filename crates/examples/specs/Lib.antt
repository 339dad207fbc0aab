pub mod Book
pub mod Ferry
