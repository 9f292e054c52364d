pub mod Rows
pub mod Above
pub mod Clears
pub mod Keeps
pub mod Each
