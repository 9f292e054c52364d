pub mod Layers
pub mod Refined
pub mod Given
pub mod Seen
