pub mod Lists
pub mod Parts
pub mod Ghosts
pub mod Fluxes
pub mod Corrections
pub mod Cells
