use Rattle.dense_exchange.proofs.Interiors.{others_kept, own_written}
use Rattle.dense_exchange.proofs.writes.write_interior.Goals as goal

pub returns-clause-own : goal.returns-clause-own
returns-clause-own c =
    own_written c.args.layout.now c.args.own.now c.write_box.new.into c.ghost_layers.result c.ghost_layers-2.result c.ghost_layers-3.result c.whole.result c.in_block-into_box.result
    c.ghost_layers.ensures c.ghost_layers-2.ensures c.ghost_layers-3.ensures c.in_block-into_box.ensures c.whole.ensures c.write_box.ensures.inside

pub returns-clause-others : goal.returns-clause-others
returns-clause-others c =
    others_kept c.args.layout.now c.args.cells.now c.write_box.new.into c.ghost_layers.result c.ghost_layers-2.result c.ghost_layers-3.result c.in_block-into_box.result
    c.ghost_layers.ensures c.ghost_layers-2.ensures c.ghost_layers-3.ensures c.in_block-into_box.ensures c.write_box.ensures.outside
