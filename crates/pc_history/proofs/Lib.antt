pub mod Entering
pub mod Footprints
pub mod Moments
pub mod SoundRuns
pub mod Updates
pub mod Worked
pub mod WorldRuns
