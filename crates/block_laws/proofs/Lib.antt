pub mod Closed
pub mod OwnPairs
pub mod Updates
