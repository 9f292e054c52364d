use Rattle.std.proofs.Common.{◌≡◌, ◌≤◌, ◌+◌, ◌++◌, Some, length, map, drop, vec_capacity}
use Rattle.cycle_stores.specs.Stores.{CanLend, lent_in, taken_in}
use Rattle.cycle_stores.proofs.lending.lend_into.Given as goal

abbrev pub invariant-loop-at : goal.invariant-loop-at
invariant-loop-at l = record {
  same : l.state ≡ record l.initial.state { places = l.state.places };
  lent : lent_in l.state.places (drop l.at-index l.places) ≡ lent_in l.initial.state.places l.places;
  can : CanLend l.state.places (drop l.at-index l.places);
  room : length l.bufs.items + length (drop l.at-index l.places) ≤ vec_capacity l.bufs;
  taken : map Some l.bufs.items ++ taken_in l.state.places (drop l.at-index l.places) ≡ map Some l.initial.bufs.items ++ taken_in l.initial.state.places l.places;
}
