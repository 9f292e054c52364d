pub mod Formed
pub mod Building
pub mod Built
