pub mod Axis
pub mod Passed
pub mod Update
