pub mod KeyBits
pub mod Lattice
pub mod Lists
pub mod Any
pub mod Touching
pub mod Family
pub mod Crossing
