pub mod Sums
pub mod Corrected
pub mod Boxes
