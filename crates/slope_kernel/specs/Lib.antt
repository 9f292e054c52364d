pub mod Beside
pub mod Slopes
