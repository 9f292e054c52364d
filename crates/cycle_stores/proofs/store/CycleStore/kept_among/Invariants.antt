use Rattle.std.proofs.Common.{◌≡◌, filter, take}
use Rattle.cycle_stores.specs.Stores.{is_kept}
use Rattle.cycle_stores.proofs.store.CycleStore.kept_among.Given as goal

abbrev pub invariant-loop-at : goal.invariant-loop-at
invariant-loop-at l = l.kept.items ≡ filter (is_kept l.self.kept) (take l.at-index l.at-items)
