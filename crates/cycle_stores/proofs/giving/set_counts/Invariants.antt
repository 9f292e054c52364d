use Rattle.std.proofs.Common.{◌≡◌, drop}
use Rattle.cycle_stores.specs.Gives.{CanCount, counted_in}
use Rattle.cycle_stores.proofs.giving.set_counts.Given as goal

abbrev pub invariant-loop-i : goal.invariant-loop-i
invariant-loop-i l = record {
  same : l.state ≡ record l.initial.state { places = l.state.places };
  counted : counted_in l.state.places (drop l.i l.bufs) (drop l.i l.counts) ≡ counted_in l.initial.state.places l.bufs l.counts;
  can : CanCount l.state.places (drop l.i l.bufs) (drop l.i l.counts);
}
