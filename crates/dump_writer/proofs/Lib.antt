mod Pieces
mod Shown
mod Blocks
mod Sums
mod Rows
