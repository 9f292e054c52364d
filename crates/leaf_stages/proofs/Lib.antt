pub mod RateFits
pub mod Behinds
pub mod SideSums
