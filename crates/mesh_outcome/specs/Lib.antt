pub mod Lines
pub mod Outcome
pub mod Printing
pub mod RefusalWords
pub mod Status
pub mod Text
