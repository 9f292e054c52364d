use Rattle.std.proofs.Common.{◌<◌, arith, ◌∙◌}
use Rattle.bound_faces.proofs.Entering.{ghosts_are}
use Rattle.dense_exchange.specs.FieldMeshes.{leaf_count, settings_in}
use Rattle.dense_exchange.proofs.OnMeshes.{field_in}
use Rattle.dense_exchange.proofs.Around.{calls_more, mesh_goes_on}
use Rattle.dense_exchange.proofs.leaves.fill_all.Goals as goal

pub loop-leaf-preserved : goal.loop-leaf-preserved
loop-leaf-preserved c =
    let e = c.args.on.now in
    let few : c.loop-leaf.leaf < leaf_count e = omega (arith, c.loop-leaf-test.true, c.len-leaf-end.ensures.count) in
    record {
      filling = mesh_goes_on e c.loop-leaf.leaf c.loop-leaf.ghosts.items c.fill_leaf.new.ghosts.items c.loop-leaf.invariant.filling c.in_ok-above.ensures.filled;
      calls = c.in_ok-push.ensures.ok
          ∙ calls_more e c.loop-leaf.leaf c.has-has_ghosts.result c.in_ok-above.above c.loop-leaf.calls few
          (ghosts_are (settings_in e) e.field c.has-has_ghosts.result (field_in e c.requires.on) c.has-has_ghosts.ensures)
          c.in_ok-above.ensures.above c.loop-leaf.invariant.calls;
    }
