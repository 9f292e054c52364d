pub mod AlongFaces
pub mod Axes
pub mod Places
pub mod SideSums
