pub mod Pages
pub mod Shelf
pub mod Rows
