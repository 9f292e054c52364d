pub mod Replaced
pub mod Passed
