pub mod OwnStatus
