pub mod Measured
mod Scaled
mod Wishes
