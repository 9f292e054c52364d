pub mod Steps
pub mod TopCall
pub mod Verdicts
