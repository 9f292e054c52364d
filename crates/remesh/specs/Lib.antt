pub mod Remaps
pub mod Lists
pub mod Sources
pub mod Leaves
pub mod Fields
pub mod Stores
pub mod Carries
pub mod Openings
