pub mod RowSteps
pub mod PlaneSteps
