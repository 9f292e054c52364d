pub mod Checked
pub mod Wished
