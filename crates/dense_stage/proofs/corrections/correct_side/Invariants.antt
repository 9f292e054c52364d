use Rattle.std.proofs.Common.{◌≡◌, ◌<◌, ℕ, List, length, Some, not}
use Rattle.std.specs.List.{slice_get}
use Rattle.morton_order.specs.declared.space.Loc.{Loc}
use Rattle.block_tree.specs.Blocks.{leaves}
use Rattle.block_geometry.specs.Contents.{HasPair, pair_of}
use Rattle.correction_laws.specs.Replaced.{Covers}
use Rattle.correction_laws.proofs.Digits.{child_of}
use Rattle.dense_mesh.specs.Ghosts.{list_at}
use Rattle.dense_stage.specs.Blocks.{KeepPairs, block_in}
use Rattle.dense_stage.specs.Faces.{AreFaceLists}
use Rattle.dense_stage.proofs.corrections.correct_side.Given as goal

abbrev pub invariant-loop-half : goal.invariant-loop-half
invariant-loop-half g l = record {
  fit : AreFaceLists l.layout (length (leaves l.tree)) l.faces;
  kept : KeepPairs l.tree l.layout g.x l.initial.faces l.faces;
  done : (k : ℕ) (o : Loc) (i : List ℕ) → k < l.half → slice_get (leaves l.tree) l.leaf ≡ Some o → Covers (block_in l.tree l.layout g.x o) l.side.axis l.side.high (child_of l.side.axis (not l.side.high) k) i →
      HasPair l.layout (list_at l.faces.right.items l.leaf) (list_at l.faces.left.items l.leaf) i l.side.axis l.side.high (pair_of (block_in l.tree l.layout g.x o) i l.side.axis l.side.high);
}
