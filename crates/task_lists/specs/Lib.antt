pub mod Tasks
pub mod Cycle
