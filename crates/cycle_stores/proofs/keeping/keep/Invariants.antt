use Rattle.std.proofs.Common.{◌≤◌, take, drop, length}
use Rattle.cycle_stores.specs.Stores.{AreKeptToo}
use Rattle.cycle_stores.proofs.keeping.keep.Given as goal

abbrev pub invariant-loop-at : goal.invariant-loop-at
invariant-loop-at l = record {
  kept : AreKeptToo l.initial.kept l.kept (take l.at-index l.places);
  room : length (drop l.at-index l.places) ≤ l.kept.spare;
}
