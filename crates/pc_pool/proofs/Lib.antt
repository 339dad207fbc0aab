pub mod UpTo
