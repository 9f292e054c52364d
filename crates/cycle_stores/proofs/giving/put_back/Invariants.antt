use Rattle.std.proofs.Common.{◌≡◌}
use Rattle.cycle_stores.specs.Gives.{CanComeBack, back_in}
use Rattle.cycle_stores.proofs.giving.put_back.Given as goal

abbrev pub invariant-loop-buf : goal.invariant-loop-buf
invariant-loop-buf l = record {
  same : l.state ≡ record l.initial.state { places = l.state.places };
  back : back_in l.state.places l.buf-iterator.rest.items ≡ back_in l.initial.state.places l.fn.bufs;
  can : CanComeBack l.initial.state l.state.places l.buf-iterator.rest.items;
}
