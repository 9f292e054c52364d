pub mod Decimal
pub mod Portion
pub mod Rate
pub mod Share
