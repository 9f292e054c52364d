pub mod Entries
pub mod Keys
pub mod Changed
pub mod Listed
pub mod Next
