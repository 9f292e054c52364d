pub mod Added
pub mod Behinds
pub mod Totals
pub mod Sided
pub mod Finals
