pub mod Letters
pub mod Stages
