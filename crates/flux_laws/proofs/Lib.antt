pub mod AtSide
pub mod Corrected
pub mod AllPairs
