pub mod Meshes
pub mod Alike
pub mod Kinds
pub mod Exchanges
pub mod Orders
