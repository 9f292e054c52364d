pub mod Space
pub mod Neighbours
pub mod Key
