pub mod Blocks
pub mod Lists
pub mod Letters
pub mod Pairs
pub mod Cells
pub mod Kernels
pub mod Laws
