pub mod GridLemmas
