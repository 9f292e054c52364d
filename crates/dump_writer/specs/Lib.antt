pub mod Pieces
pub mod Blocks
pub mod Totals
pub mod History
