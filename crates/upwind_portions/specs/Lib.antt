pub mod Multiplier
pub mod Serves
