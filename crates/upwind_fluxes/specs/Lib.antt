pub mod Beside
pub mod Fluxes
pub mod Multipliers
pub mod Rates
pub mod Sides
