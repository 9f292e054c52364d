mod Lists
mod Bounds
mod Slots
mod Added
mod Reactions
pub mod Pushed
mod StagedLists
mod Cycles
