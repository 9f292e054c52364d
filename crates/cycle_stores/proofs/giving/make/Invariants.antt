use Rattle.std.proofs.Common.{◌≡◌, ◌≢◌, ◌≤◌, ◌+◌, ℕ, length}
use Rattle.cell_block.specs.State.{epoch_at, spare_at}
use Rattle.cycle_stores.specs.Gives.{CanMake, made_in, new_in}
use Rattle.cycle_stores.proofs.giving.make.Given as goal

abbrev pub invariant-loop-buf : goal.invariant-loop-buf
invariant-loop-buf l = record {
  mesh : l.state ≡ record l.initial.state { places = l.state.places; epochs = l.state.epochs; spares = l.state.spares };
  made : made_in l.state.places l.buf-iterator.rest.items ≡ made_in l.initial.state.places l.fn.bufs;
  epoch : epoch_at l.state l.list + new_in l.state.places l.buf-iterator.rest.items ≡ epoch_at l.initial.state l.list + new_in l.initial.state.places l.fn.bufs;
  others : (other : ℕ) → other ≢ l.list → epoch_at l.state other ≡ epoch_at l.initial.state other;
  room : length l.buf-iterator.rest.items ≤ spare_at l.state l.list;
  few : epoch_at l.state l.list + length l.buf-iterator.rest.items ≤ epoch_at l.initial.state l.list + length l.fn.bufs;
  can : CanMake l.initial.state l.list l.state.places l.buf-iterator.rest.items;
}
