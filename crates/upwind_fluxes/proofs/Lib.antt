pub mod Addresses
pub mod SideFaces
pub mod AllFaces
