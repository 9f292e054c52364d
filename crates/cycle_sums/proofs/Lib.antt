pub mod Counted
pub mod Wished
pub mod Bounded
