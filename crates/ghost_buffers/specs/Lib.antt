pub mod Parts
pub mod Ghosts
pub mod Regions
