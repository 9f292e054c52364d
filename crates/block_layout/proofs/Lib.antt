pub mod Sizes
pub mod Boxes
pub mod InBlock
pub mod FaceNumbers
