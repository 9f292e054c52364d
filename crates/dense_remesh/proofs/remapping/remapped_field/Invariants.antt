use Rattle.std.proofs.Common.{◌≡◌, ℕ, ◌<◌, List, length}
use Rattle.std.specs.List.{slice_index_or}
use Rattle.morton_order.specs.declared.space.Loc.{Loc}
use Rattle.block_tree.specs.Blocks.{leaves}
use Rattle.dense_remesh.specs.declared.origins.Origin.{Origin}
use Rattle.dense_remesh.specs.Parts.{IsTaken}
use Rattle.dense_remesh.proofs.remapping.remapped_field.Given as goal

abbrev pub invariant-loop-leaf : goal.invariant-loop-leaf
invariant-loop-leaf l = record {
  count : length l.lists ≡ l.leaf;
  each : (k : ℕ) (x : List ℕ) → k < l.leaf → (d : Loc) (e : Origin) → IsTaken l.layout l.field (slice_index_or (leaves l.next) k d) (slice_index_or l.origins k e) (slice_index_or l.lists k x);
}
