pub mod Layers
pub mod Stage
