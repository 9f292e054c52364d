pub mod Lists
pub mod Alike
pub mod Told
pub mod Owned
pub mod Ordered
