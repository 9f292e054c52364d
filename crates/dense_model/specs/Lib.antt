pub mod RunFiles
pub mod Files
pub mod Stands
pub mod Next
