pub mod Meshes
pub mod Masks
pub mod Ghosts
pub mod Laws
