mod Closing
pub mod Histories
mod Keeps
mod Opening
pub mod Sharing
