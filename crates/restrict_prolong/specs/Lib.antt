pub mod Refined
pub mod Boxes
pub mod Rows
pub mod Laws
pub mod Indices
