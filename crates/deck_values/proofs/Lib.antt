pub mod BlockNameLemmas
pub mod Each
pub mod Loops
pub mod Spaces
pub mod EachSome
pub mod Signs
