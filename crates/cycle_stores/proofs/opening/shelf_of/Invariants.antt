use Rattle.std.proofs.Common.{◌≡◌, ◌&&◌, nat_lt}
use Rattle.sparse_pool.specs.declared.place.Place.{Place}
use Rattle.cell_block.specs.State.{is_allocated}
use Rattle.cycle_stores.specs.Stores.{IsShelfFor, is_kept}
use Rattle.cycle_stores.proofs.opening.shelf_of.Given as goal

abbrev pub invariant-loop-block : goal.invariant-loop-block
invariant-loop-block l = record {
  shelf : IsShelfFor l.state l.kept;
  kept : (at : Place) → is_kept l.kept at ≡ (nat_lt at.block l.block && is_allocated l.state at);
}
