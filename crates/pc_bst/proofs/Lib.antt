pub mod Ends
pub mod GetDescents
pub mod NoSlots
pub mod PutDescents
pub mod RemoveDescents
