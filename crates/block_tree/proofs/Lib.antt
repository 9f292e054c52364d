pub mod Forced
pub mod Ancestors
mod Chosen
mod Sides
mod Crossings
pub mod Behinds
pub mod Changes
pub mod LeafList
pub mod KeyOrder
pub mod Next
pub mod Places
pub mod Lists
pub mod Worklist
pub mod Growing
pub mod Counting
pub mod InnerList
pub mod Numbers
pub mod Shown
pub mod Wanted
pub mod Filling
pub mod Grown
pub mod WantedNodes
