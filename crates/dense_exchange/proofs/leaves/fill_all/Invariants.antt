use Rattle.std.proofs.Common.{◌≡◌, map, take}
use Rattle.block_tree.specs.Blocks.{leaves}
use Rattle.mesh_rules.specs.Mask.{exchange_calls}
use Rattle.dense_exchange.specs.FieldMeshes.{mesh_in, settings_in}
use Rattle.dense_exchange.proofs.Around.{MeshFilling}
use Rattle.dense_exchange.proofs.leaves.fill_all.Given as goal

abbrev pub invariant-loop-leaf : goal.invariant-loop-leaf
invariant-loop-leaf l = record {
  filling : MeshFilling l.on l.leaf l.ghosts.items;
  calls : l.calls ≡ map (exchange_calls (settings_in l.on) (mesh_in l.on) l.on.field) (take l.leaf (leaves l.on.tree.now));
}
