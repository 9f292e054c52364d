mod Bounds
pub mod Boxes
pub mod CarriedMasks
pub mod Counters
mod Families
pub mod Halves
pub mod LeafLists
mod Near
pub mod Numbers
pub mod Openings
pub mod Pushed
pub mod Spreads
mod StartBoxes
pub mod Taken
