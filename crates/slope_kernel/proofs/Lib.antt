pub mod AllSlopes
pub mod CellsBeside
