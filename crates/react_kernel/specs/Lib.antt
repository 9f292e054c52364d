pub mod Code
pub mod Steps
pub mod ReactionLists
pub mod ReactionLaws
pub mod Blocks
pub mod BlockSteps
