pub mod Work
pub mod Fields
pub mod Held
pub mod Flows
pub mod Sums
