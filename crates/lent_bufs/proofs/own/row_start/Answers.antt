use Rattle.std.proofs.Common.{◌∙◌}
use Rattle.react_kernel.proofs.Rows.{row_from, row_start_place}
use Rattle.lent_bufs.proofs.Rows.{row_ends}
use Rattle.lent_bufs.proofs.own.row_start.Goals as goal

pub returns-clause-place : goal.returns-clause-place
returns-clause-place c =
    let l = c.args.layout.now in
    row_start_place l c.args.row c.at.result l.sound.cells1.least
    (c.at.ensures.value ∙ row_from l c.args.row c.ghost_layers.result c.ghost_layers-2.result c.ghost_layers-3.result c.ghost_layers.ensures c.ghost_layers-2.ensures c.ghost_layers-3.ensures)

pub returns-clause-ends : goal.returns-clause-ends
returns-clause-ends c =
    let l = c.args.layout.now in
    row_ends l c.args.row c.at.result c.requires
    (row_start_place l c.args.row c.at.result l.sound.cells1.least
    (c.at.ensures.value ∙ row_from l c.args.row c.ghost_layers.result c.ghost_layers-2.result c.ghost_layers-3.result c.ghost_layers.ensures c.ghost_layers-2.ensures c.ghost_layers-3.ensures))
