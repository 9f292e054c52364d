pub mod Kept
pub mod PartReads
