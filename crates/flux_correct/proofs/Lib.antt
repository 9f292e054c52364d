pub mod FaceBoxes
pub mod Gathered
