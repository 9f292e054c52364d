pub mod Letters
pub mod Tables
pub mod Inside
