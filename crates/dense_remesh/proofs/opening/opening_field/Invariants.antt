use Rattle.std.proofs.Common.{◌≡◌, ℕ, ◌<◌, List, length}
use Rattle.std.specs.List.{slice_index_or}
use Rattle.morton_order.specs.declared.space.Loc.{Loc}
use Rattle.block_tree.specs.Blocks.{leaves}
use Rattle.dense_remesh.specs.StartBoxes.{opening_list}
use Rattle.dense_remesh.proofs.opening.opening_field.Given as goal

abbrev pub invariant-loop-leaf : goal.invariant-loop-leaf
invariant-loop-leaf l = record {
  count : length l.lists ≡ l.leaf;
  each : (k : ℕ) (x : List ℕ) → k < l.leaf → (d : Loc) → slice_index_or l.lists k x ≡ opening_list l.layout.dims l.layout.cells l.boxes (slice_index_or (leaves l.tree) k d);
}
