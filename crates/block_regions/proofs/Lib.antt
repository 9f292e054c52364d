pub mod Rows
pub mod RowStarts
pub mod InBlocks
