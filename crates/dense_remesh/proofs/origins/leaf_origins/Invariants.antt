use Rattle.std.proofs.Common.{◌≡◌, ℕ, ◌<◌, length}
use Rattle.std.specs.List.{slice_index_or}
use Rattle.morton_order.specs.declared.space.Loc.{Loc}
use Rattle.block_tree.specs.Blocks.{leaves}
use Rattle.dense_remesh.specs.declared.origins.Origin.{Origin}
use Rattle.dense_remesh.specs.Origins.{IsOrigin}
use Rattle.dense_remesh.proofs.origins.leaf_origins.Given as goal

abbrev pub invariant-loop-leaf : goal.invariant-loop-leaf
invariant-loop-leaf l = record {
  count : length l.origins.items ≡ l.leaf;
  each : (k : ℕ) (e : Origin) → k < l.leaf → (d : Loc) → IsOrigin l.old (slice_index_or (leaves l.next) k d) (slice_index_or l.origins.items k e);
}
