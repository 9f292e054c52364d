pub mod Events
pub mod Plan
pub mod Protocol
pub mod Readiness
