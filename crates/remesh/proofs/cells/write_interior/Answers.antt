use Rattle.remesh.proofs.Interiors.{interior_written}
use Rattle.remesh.proofs.cells.write_interior.Goals as goal

pub returns : goal.returns
returns c =
    interior_written c.args.layout.now c.args.own.now c.write_box.new.into c.ghost_layers.result c.ghost_layers-2.result c.ghost_layers-3.result c.whole.result c.in_block-into_box.result
    c.ghost_layers.ensures c.ghost_layers-2.ensures c.ghost_layers-3.ensures c.in_block-into_box.ensures c.whole.ensures c.requires.own c.write_box.ensures.inside
