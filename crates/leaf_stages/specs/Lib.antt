pub mod Rates
pub mod Flows
