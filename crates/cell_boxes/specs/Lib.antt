pub mod Boxes
pub mod Planes
