mod Runs
mod Trees
mod Reactions
mod Blocks
mod Entries
pub mod FileLists
mod Opened
mod Moved
