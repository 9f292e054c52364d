pub mod Faces
pub mod Regions
