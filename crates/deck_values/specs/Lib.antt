pub mod Reading
pub mod Numbers
pub mod BlockReader
pub mod BlockNames
pub mod FlagsAndIds
