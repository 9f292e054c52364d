mod Blocks
mod Greatest
mod Steps
