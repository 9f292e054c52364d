pub mod Fault
pub mod Files
pub mod Pieces
pub mod Stops
