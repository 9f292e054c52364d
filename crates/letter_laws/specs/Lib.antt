pub mod Sides
pub mod Parts
pub mod Ghosts
pub mod Bounds
pub mod Stays
