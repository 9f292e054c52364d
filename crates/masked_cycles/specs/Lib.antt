pub mod Cycles
pub mod Wishes
pub mod Ends
pub mod States
