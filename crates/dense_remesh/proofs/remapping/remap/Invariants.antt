use Rattle.std.proofs.Common.{◌≡◌, ℕ, ◌<◌, List, [], length}
use Rattle.std.specs.List.{slice_index_or}
use Rattle.block_tree.specs.Blocks.{leaves}
use Rattle.dense_remesh.specs.Parts.{AreTaken}
use Rattle.dense_remesh.proofs.remapping.remap.Given as goal

abbrev pub invariant-loop-f : goal.invariant-loop-f
invariant-loop-f l = record {
  count : length l.new.items ≡ l.f;
  each : (k : ℕ) (x : List (List ℕ)) → k < l.f → AreTaken l.layout (slice_index_or l.lists k []) (leaves l.next) l.origins.items (slice_index_or l.new.items k x);
}
