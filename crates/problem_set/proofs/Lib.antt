pub mod PackageLemmas
pub mod KeptFlagLemmas
pub mod RateLemmas
pub mod ChainLemmas
pub mod GatherLemmas
