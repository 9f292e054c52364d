pub mod Appended
pub mod Rows
pub mod Blocks
pub mod FileNames
pub mod Entries
pub mod Walks
