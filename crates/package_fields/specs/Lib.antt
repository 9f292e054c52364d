pub mod Flags
pub mod Fields
pub mod Registered
pub mod Flow
pub mod Kernel
