pub mod Steps
pub mod Halves
pub mod SumSteps
pub mod SumRows
pub mod ShareRows
pub mod Wholes
pub mod Restored
