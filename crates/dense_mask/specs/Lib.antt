pub mod Totals
pub mod Steps
pub mod SlotSteps
pub mod Cuts
