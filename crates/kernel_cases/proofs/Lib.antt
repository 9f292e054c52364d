mod LevelParts
mod SmallBlocks
mod SmallSums
