pub mod Rates
pub mod Pairs
pub mod Update
