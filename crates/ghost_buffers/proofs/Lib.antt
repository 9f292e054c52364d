pub mod PartExtents
pub mod Parts
