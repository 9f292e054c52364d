use Rattle.std.proofs.Common.{◌≡◌, ◌<◌, ◌≤◌, ℕ, length, slice_index_or}
use Rattle.cell_block.specs.Partitions.{no_shelf, restarted}
use Rattle.cell_block.proofs.shelf_lists.restart_each.Given as goal

abbrev pub invariant-loop-shelf : goal.invariant-loop-shelf
invariant-loop-shelf l = record {
  count : length l.shelves ≡ length l.initial.shelves;
  done : (k : ℕ) → k < l.shelf-index → slice_index_or l.shelves k no_shelf ≡ restarted (slice_index_or l.initial.shelves k no_shelf);
  rest : (k : ℕ) → l.shelf-index ≤ k → slice_index_or l.shelves k no_shelf ≡ slice_index_or l.initial.shelves k no_shelf;
}
