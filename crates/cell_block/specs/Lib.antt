pub mod State
pub mod Rules
pub mod Laws
pub mod Partitions
pub mod Store
pub mod Whole
