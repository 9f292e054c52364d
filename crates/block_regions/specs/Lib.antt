pub mod Written
pub mod Boxes
pub mod Rows
