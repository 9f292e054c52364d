pub mod Sums
pub mod Shows
pub mod Wishes
pub mod Bounds
