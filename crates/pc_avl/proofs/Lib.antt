mod Closing
pub mod NoSlots
pub mod RemoveDescents
pub mod RepairSlots
pub mod RepairStrides
mod Seeking
