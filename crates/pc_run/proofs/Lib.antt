mod WordRows
pub mod Shapes
pub mod Sharing
pub mod Steps
pub mod Taking
pub mod Turns
