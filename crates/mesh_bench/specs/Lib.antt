pub mod NextTrees
