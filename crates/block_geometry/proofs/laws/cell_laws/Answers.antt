use Rattle.block_geometry.proofs.Cells as cells
use Rattle.block_geometry.proofs.laws.cell_laws.Goals as goal

pub returns : goal.returns
returns c = cells.cells_of_blocks
