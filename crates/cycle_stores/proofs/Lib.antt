pub mod Changes
pub mod Folds
pub mod FreshPlaces
pub mod Kept
pub mod OpenedPlaces
pub mod Turns
pub mod Uses
pub mod ZerosMade
