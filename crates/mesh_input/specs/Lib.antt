pub mod Fault
pub mod File
pub mod Input
pub mod FileRead
