pub mod Footprints
pub mod RunLaws
pub mod Runs
pub mod Updates
pub mod WorldRuns
