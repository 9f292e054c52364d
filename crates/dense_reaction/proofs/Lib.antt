mod Cells
mod Rows
mod Gains
mod MeshCells
mod LeafSteps
mod Unreacted
