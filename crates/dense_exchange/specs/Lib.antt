pub mod FieldMeshes
pub mod Sides
pub mod Leaves
