use Rattle.std.proofs.Common.{◌≡◌, ℕ, ◌<◌, false, None}
use Rattle.std.specs.List.{slice_index_or}
use Rattle.dense_remesh.specs.Slots.{keeps}
use Rattle.dense_remesh.proofs.carried.is_kept_below.Given as goal

abbrev pub invariant-loop-j : goal.invariant-loop-j
invariant-loop-j l = (k : ℕ) → k < l.j → keeps l.slots (slice_index_or l.numbers k None) ≡ false
