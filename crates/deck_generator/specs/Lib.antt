pub mod Forms
pub mod Values
pub mod Generated
pub mod Settings
