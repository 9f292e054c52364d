pub mod Blocks
pub mod Wishes
pub mod Checks
