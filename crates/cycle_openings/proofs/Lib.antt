pub mod Copied
pub mod States
