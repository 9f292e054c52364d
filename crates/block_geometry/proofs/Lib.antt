pub mod Steps
pub mod Cells
pub mod Rows
pub mod Seen
mod Worked
