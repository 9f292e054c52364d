pub mod Boxes
pub mod Flows
