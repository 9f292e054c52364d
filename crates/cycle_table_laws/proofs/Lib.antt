pub mod Zips
pub mod Wires
pub mod Leases
pub mod Readies
pub mod Takings
pub mod Givings
pub mod Deliveries
