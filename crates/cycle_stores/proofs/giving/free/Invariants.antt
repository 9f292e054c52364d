use Rattle.std.proofs.Common.{◌≡◌, ◌≢◌, ◌+◌, ℕ, length, drop}
use Rattle.cell_block.specs.State.{epoch_at}
use Rattle.cycle_stores.specs.Gives.{CanFree, freed_in}
use Rattle.cycle_stores.proofs.giving.free.Given as goal

abbrev pub invariant-loop-at : goal.invariant-loop-at
invariant-loop-at l = record {
  mesh : l.state ≡ record l.initial.state { places = l.state.places; epochs = l.state.epochs; spares = l.state.spares };
  freed : freed_in l.state.places (drop l.at-index l.places) ≡ freed_in l.initial.state.places l.places;
  epoch : epoch_at l.state l.list + length (drop l.at-index l.places) ≡ epoch_at l.initial.state l.list + length l.places;
  others : (other : ℕ) → other ≢ l.list → epoch_at l.state other ≡ epoch_at l.initial.state other;
  can : CanFree l.initial.state l.list l.state.places (drop l.at-index l.places);
}
