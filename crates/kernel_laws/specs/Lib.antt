pub mod Slopes
pub mod Updated
