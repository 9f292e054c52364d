pub mod Listed
pub mod Flows
pub mod Advanced
pub mod Steps
