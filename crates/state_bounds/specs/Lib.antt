pub mod Bounds
pub mod Corners
pub mod Counts
