pub mod Indices
pub mod Sizes
pub mod Layouts
pub mod Regions
pub mod Faces
pub mod Laws
