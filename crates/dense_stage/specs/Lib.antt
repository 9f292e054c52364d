pub mod Faces
pub mod Blocks
pub mod Parts
pub mod Own
