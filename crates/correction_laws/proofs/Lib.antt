pub mod Digits
pub mod Covered
pub mod PartSums
pub mod Others
pub mod Replaced
pub mod Passed
