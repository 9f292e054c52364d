use Rattle.std.proofs.Common.{◌≡◌, ◌<◌, ℕ, false, length, slice_index_or}
use Rattle.cycle_tables.specs.Inside.{may_start}
use Rattle.cycle_tables.proofs.readiness.mark_all.Given as goal

abbrev pub invariant-loop-list : goal.invariant-loop-list
invariant-loop-list g l = record { all : length l.ready ≡ length l.lists; marked : (i : ℕ) → i < l.list → slice_index_or l.ready i false ≡ may_start l.tasks.rounds l.tasks.tail l.past l.lists l.mail i }
