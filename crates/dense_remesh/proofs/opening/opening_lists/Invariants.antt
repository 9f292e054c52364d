use Rattle.std.proofs.Common.{◌≡◌, ◌==◌, ℕ, ◌<◌, List, length, map}
use Rattle.std.specs.List.{filter, slice_index_or}
use Rattle.block_tree.specs.Blocks.{leaves}
use Rattle.deck_entries.specs.declared.entries.StartBox.{StartBox}
use Rattle.dense_remesh.specs.StartBoxes.{opening_list}
use Rattle.dense_remesh.proofs.opening.opening_lists.Given as goal

abbrev pub invariant-loop-field : goal.invariant-loop-field
invariant-loop-field l = record {
  count : length l.lists.items ≡ l.field;
  each : (k : ℕ) (x : List (List ℕ)) → k < l.field → slice_index_or l.lists.items k x ≡ map (opening_list l.layout.dims l.layout.cells (filter (λ (b : StartBox). b.field == k) l.problem.boxes)) (leaves l.tree);
}
