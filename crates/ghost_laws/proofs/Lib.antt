pub mod Sizes
pub mod Layers
pub mod Refined
pub mod Ghosts
pub mod Meeting
pub mod Senders
pub mod Filled
mod Worked
