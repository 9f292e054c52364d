pub mod Lists
pub mod Origins
pub mod Parts
pub mod StartBoxes
pub mod Slots
