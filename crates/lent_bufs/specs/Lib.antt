pub mod Meshes
pub mod Buffers
pub mod Cleared
pub mod Kept
pub mod Sums
