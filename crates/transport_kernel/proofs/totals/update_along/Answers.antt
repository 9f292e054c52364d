use Rattle.std.proofs.Common.{true, false, length, arith}
use Rattle.transport_kernel.proofs.AlongFaces.{ghosts_stay, passed_along, taken_along}
use Rattle.transport_kernel.proofs.Places.{cells_lie, faces_lie, has_cells}
use Rattle.transport_kernel.proofs.totals.update_along.Goals as goal

pub update_box-requires-clause-cells : goal.update_box-requires-clause-cells
update_box-requires-clause-cells c = rw c.cell_extents.ensures (has_cells c.args.layout.now c.args.layout.now.sound)

pub update_box-requires-clause-into : goal.update_box-requires-clause-into
update_box-requires-clause-into c = rw (c.cell_extents.ensures, c.interior_box.ensures) (cells_lie c.args.layout.now (length c.args.cells.now) c.requires.cell_list)

pub update_box-requires-clause-firsts : goal.update_box-requires-clause-firsts
update_box-requires-clause-firsts c = rw (c.cell_extents.ensures, c.faces_beside-low.ensures) (faces_lie c.args.layout.now c.args.axis false (length c.args.right.now) c.args.layout.now.sound c.requires.axis c.requires.right_list)

pub update_box-requires-clause-seconds : goal.update_box-requires-clause-seconds
update_box-requires-clause-seconds c = rw (c.cell_extents.ensures, c.faces_beside-high.ensures) (faces_lie c.args.layout.now c.args.axis true (length c.args.right.now) c.args.layout.now.sound c.requires.axis c.requires.right_list)

pub update_box-requires-clause-thirds : goal.update_box-requires-clause-thirds
update_box-requires-clause-thirds c = rw (c.cell_extents.ensures, c.faces_beside-low.ensures) (faces_lie c.args.layout.now c.args.axis false (length c.args.left.now) c.args.layout.now.sound c.requires.axis c.requires.left_list)

pub update_box-requires-clause-fourths : goal.update_box-requires-clause-fourths
update_box-requires-clause-fourths c = rw (c.cell_extents.ensures, c.faces_beside-high.ensures) (faces_lie c.args.layout.now c.args.axis true (length c.args.left.now) c.args.layout.now.sound c.requires.axis c.requires.left_list)

pub update_box-requires-clause-taken : goal.update_box-requires-clause-taken
update_box-requires-clause-taken c =
    taken_along c.args.layout.now c.args.axis c.args.cells.now c.args.right.now c.args.left.now c.cell_extents.result c.interior_box.result c.faces_beside-low.result c.faces_beside-high.result
    (omega (arith, c.args.layout.now.sound.most))
    (record { cells_is = c.cell_extents.ensures; at_is = c.interior_box.ensures; low_is = c.faces_beside-low.ensures; high_is = c.faces_beside-high.ensures }) c.requires.passes

pub returns-clause-along : goal.returns-clause-along
returns-clause-along c =
    passed_along c.args.layout.now c.args.axis c.args.cells.now c.update_box.new.into c.args.right.now c.args.left.now c.cell_extents.result c.interior_box.result c.faces_beside-low.result c.faces_beside-high.result
    (omega (arith, c.args.layout.now.sound.most))
    (record { cells_is = c.cell_extents.ensures; at_is = c.interior_box.ensures; low_is = c.faces_beside-low.ensures; high_is = c.faces_beside-high.ensures }) c.update_box.ensures.inside

pub returns-clause-ghosts : goal.returns-clause-ghosts
returns-clause-ghosts c =
    ghosts_stay c.args.layout.now c.cell_extents.result c.args.cells.now c.update_box.new.into c.interior_box.result c.cell_extents.ensures c.interior_box.ensures c.update_box.ensures.outside
