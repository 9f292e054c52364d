use Rattle.std.proofs.Common.{◌≡◌, ℕ, ◌<◌, None, length}
use Rattle.std.specs.List.{slice_index_or}
use Rattle.morton_order.specs.Space.{child}
use Rattle.block_tree.specs.Blocks.{leaves}
use Rattle.block_tree.specs.Nodes.{number_in}
use Rattle.dense_remesh.proofs.origins.child_leaves.Given as goal

abbrev pub invariant-loop-j : goal.invariant-loop-j
invariant-loop-j l = record {
  long : length l.numbers ≡ 8;
  found : (k : ℕ) → k < l.j → slice_index_or l.numbers k None ≡ number_in (leaves l.tree) (child l.tree.shape.dims l.at k);
}
