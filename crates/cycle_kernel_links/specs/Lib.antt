pub mod Lists
pub mod Ghosts
pub mod Pairs
pub mod Cells
