use Rattle.std.proofs.Common.{◌≡◌, ◌==◌, ◌-◌, ◌&&◌, ◌||◌, nat_lt}
use Rattle.sparse_pool.specs.declared.place.Place.{Place}
use Rattle.cell_block.specs.State.{is_allocated}
use Rattle.cycle_stores.specs.Stores.{IsShelfFor, is_kept}
use Rattle.cycle_stores.proofs.opening.keep_block.Given as goal

abbrev pub invariant-loop-field : goal.invariant-loop-field
invariant-loop-field l = record {
  shelf : IsShelfFor l.state l.kept;
  kept : (at : Place) → is_kept l.kept at ≡ (is_kept l.fn.kept at || (at.block == l.block && (nat_lt at.field l.from && is_allocated l.state at)));
}

abbrev pub decreases-loop-field : goal.decreases-loop-field
decreases-loop-field l = l.state.fields - l.from
