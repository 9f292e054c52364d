pub mod Exchanges
pub mod Stages
