pub mod Ghosts
pub mod Corners
pub mod Totals
pub mod Stages
pub mod Bounds
pub mod Counts
