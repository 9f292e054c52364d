pub mod Afters
pub mod Exits
pub mod Found
pub mod Lasts
pub mod Prefixes
pub mod ReadSoFar
