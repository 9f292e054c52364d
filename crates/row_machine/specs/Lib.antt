pub mod Rules
pub mod Slots
pub mod Mail
