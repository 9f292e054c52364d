pub mod Stores
pub mod Gives
pub mod Openings
pub mod Arrivals
