pub mod Tables
pub mod Zeros
pub mod Letters
pub mod Owners
