pub mod LeafFields
pub mod Opened
