pub mod PlaceSums
pub mod Lent
pub mod Idle
pub mod Fluxes
pub mod Updates
