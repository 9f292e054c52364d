use Rattle.std.proofs.Common.{◌≡◌, filter, map, not, take}
use Rattle.cell_block.specs.State.{is_allocated, place_of}
use Rattle.cycle_stores.proofs.store.CycleStore.absent_of.Given as goal

abbrev pub invariant-loop-buf : goal.invariant-loop-buf
invariant-loop-buf l = l.places.items ≡ filter (λ at. not (is_allocated l.self.state at)) (map place_of (take l.buf-index l.buf-items))
