pub mod Tagged
pub mod Listed
