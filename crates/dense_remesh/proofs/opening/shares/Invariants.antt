use Rattle.std.proofs.Common.{◌≡◌, ℕ, ◌<◌, length}
use Rattle.std.specs.List.{slice_index_or}
use Rattle.dense_remesh.specs.StartBoxes.{cell_of, cell_of_block, root_total, spread_over}
use Rattle.dense_remesh.proofs.opening.shares.Given as goal

abbrev pub invariant-loop-place : goal.invariant-loop-place
invariant-loop-place l = record {
  count : length l.totals.items ≡ l.place;
  each : (k x : ℕ) → k < l.place → slice_index_or l.totals.items k x ≡ spread_over l.block.level l.layout.dims (root_total l.boxes) (cell_of l.block.level (cell_of_block l.layout.cells l.block k));
}
