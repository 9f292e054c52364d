pub mod Digits
pub mod Powers
pub mod Splits
pub mod Sums
