pub mod Cycles
pub mod Ended
pub mod Faults
pub mod Gaining
pub mod Passing
pub mod Stopped
pub mod Stopping
