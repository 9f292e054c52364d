use Rattle.std.proofs.Common.{take}
use Rattle.cycle_stores.specs.Stores.{AreKeptNoMore}
use Rattle.cycle_stores.proofs.keeping.keep_no_more.Given as goal

abbrev pub invariant-loop-at : goal.invariant-loop-at
invariant-loop-at l = AreKeptNoMore l.initial.kept l.kept (take l.at-index l.places)
