pub mod HistoryLaws
pub mod TreeLaws
pub mod BoundLaws
pub mod MaskLaws
pub mod FitLaws
pub mod ZeroThresholds
