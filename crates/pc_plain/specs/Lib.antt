pub mod OwedRuns
pub mod PlainCells
pub mod PlainPairs
pub mod PlainRuns
pub mod PlainShapes
pub mod PlainWriting
pub mod QuietRuns
pub mod ShapePlaces
