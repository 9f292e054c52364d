pub mod Outlines
pub mod Dump
pub mod History
pub mod Sizes
pub mod Pieces
