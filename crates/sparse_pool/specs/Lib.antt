pub mod Label
pub mod Idle
pub mod Mask
