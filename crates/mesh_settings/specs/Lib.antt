pub mod Limits
pub mod Words
pub mod Mesh
pub mod MeshPart
pub mod Grid
pub mod Stepping
pub mod BlockKinds
pub mod Sound
