pub mod Axes
pub mod ClosedSides
pub mod FittingRates
pub mod LayerCells
pub mod ListedFluxes
