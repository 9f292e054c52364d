pub mod Follows
pub mod Laws
pub mod Rounds
pub mod NextWork
