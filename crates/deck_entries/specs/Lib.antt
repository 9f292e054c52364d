pub mod SoundEntries
pub mod EntryReaders
pub mod FieldBlocks
