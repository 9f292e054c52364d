pub mod LeafTags
pub mod LeafWishes
