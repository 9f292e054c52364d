pub mod Buffers
pub mod Letters
pub mod Leases
pub mod Works
