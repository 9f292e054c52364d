pub mod Sent
pub mod Receivers
