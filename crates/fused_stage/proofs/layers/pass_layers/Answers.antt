use Rattle.fused_stage.proofs.LayerCells.{layers_done, taken_layers}
use Rattle.fused_stage.proofs.layers.pass_layers.Goals as goal

pub update_box-requires-clause-taken : goal.update_box-requires-clause-taken
update_box-requires-clause-taken g c =
    taken_layers (g.R.RowRule.takes c.args.op.now) c.args.layout.now c.args.axis c.args.from c.args.depth c.args.cells.now c.args.into.now c.layer_extents.result c.layers_from-below.result c.layers_from-here.result c.layers_from-above.result
    c.args.layout.now.sound c.requires.axis c.requires.within
    (record { extents_are = c.layer_extents.ensures; below_is = c.layers_from-below.ensures; here_is = c.layers_from-here.ensures; above_is = c.layers_from-above.ensures }) c.requires.taken

pub returns : goal.returns
returns g c =
    layers_done (g.R.RowRule.gives c.args.op.now) c.args.layout.now c.args.axis c.args.from c.args.depth c.args.cells.now c.args.into.now c.update_box.new.into c.layer_extents.result c.layers_from-below.result c.layers_from-here.result c.layers_from-above.result
    c.args.layout.now.sound c.requires.axis c.requires.within
    (record { extents_are = c.layer_extents.ensures; below_is = c.layers_from-below.ensures; here_is = c.layers_from-here.ensures; above_is = c.layers_from-above.ensures }) c.update_box.ensures.inside c.update_box.ensures.outside
