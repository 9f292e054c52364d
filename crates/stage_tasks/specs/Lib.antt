pub mod Portions
pub mod Fluxes
pub mod Updates
