pub mod DueLetters
pub mod Counts
pub mod Sides
