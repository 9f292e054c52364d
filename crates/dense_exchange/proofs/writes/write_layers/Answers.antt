use Rattle.dense_exchange.proofs.Beside.{layers_copied, layers_fit, layers_kept}
use Rattle.dense_exchange.proofs.writes.write_layers.Goals as goal

pub write_box-requires-clause-from : goal.write_box-requires-clause-from
write_box-requires-clause-from c =
    layers_fit c.args.layout.now c.args.side.axis c.args.side.high c.inner_layers-sent.result c.ghosts-given.result c.in_block-from_box.result _ c.inner_layers-sent.ensures.region c.ghosts-given.ensures.region
    c.inner_layers-sent.ensures.lies c.in_block-from_box.ensures c.requires.sender

pub returns-clause-ghosts : goal.returns-clause-ghosts
returns-clause-ghosts c =
    layers_copied c.args.layout.now c.args.side.axis c.args.side.high c.args.sender.now c.write_box.new.into c.inner_layers-sent.result c.ghosts-given.result c.in_block-from_box.result c.in_block-into_box.result
    c.inner_layers-sent.ensures.region c.ghosts-given.ensures.region c.in_block-from_box.ensures c.in_block-into_box.ensures c.write_box.ensures.inside

pub returns-clause-others : goal.returns-clause-others
returns-clause-others c =
    layers_kept c.args.layout.now c.args.side.axis c.args.side.high c.args.cells.now c.write_box.new.into c.ghosts-given.result c.in_block-into_box.result c.ghosts-given.ensures.region c.in_block-into_box.ensures c.write_box.ensures.outside
