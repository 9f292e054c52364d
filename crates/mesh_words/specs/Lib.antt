pub mod Command
pub mod Numbers
pub mod RawArguments
pub mod Arguments
pub mod Seen
