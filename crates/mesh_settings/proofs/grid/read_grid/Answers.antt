use Rattle.std.proofs.Common.{arith, ◌≤◌}
use Rattle.mesh_settings.specs.Grid.{root_blocks}
use Rattle.mesh_settings.proofs.GridLemmas.{IsGrid-from}
use Rattle.mesh_settings.proofs.grid.read_grid.Goals as goal

pub returns-clause-sound : goal.returns-clause-sound
returns-clause-sound c =
    let few : root_blocks c.args.size c.in_ok-cells.cells ≤ 65536 = omega (arith, c.root_blocks-blocks.ensures) in
    rw c.shape_of.ensures (IsGrid-from c.args.size c.in_ok-cells.cells c.args.faces.now c.requires.size c.in_ok-cells.ensures.sound few)
