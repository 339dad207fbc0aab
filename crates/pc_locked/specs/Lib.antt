pub mod Answers
pub mod Kinds
pub mod LockedKinds
pub mod Repairs
pub mod States
