use Rattle.std.proofs.Common.{◌≡◌, ◌+◌, ◌≤◌, length, max}
use Rattle.lent_bufs.specs.Sums.{IsPadded}
use Rattle.lent_bufs.proofs.sums.reach.Given as goal

abbrev pub invariant-loop-at : goal.invariant-loop-at
invariant-loop-at g l = record {
  padded : IsPadded l.none l.initial.list.items l.list.items;
  reached : length l.list.items ≡ l._at;
  few : l._at ≤ max (length l.initial.list.items) (l.field + 1);
}
