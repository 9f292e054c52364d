use Rattle.std.proofs.Common.{◌≡◌}
use Rattle.std.specs.List.{All}
use Rattle.yard_bench.specs.Free.{IsFree}
use Rattle.yard_bench.proofs.seated.Given as goal

abbrev pub invariant-loop : goal.invariant-loop
invariant-loop l = (l.yard.made ≡ l.counter) × All (IsFree l.yard) l.seats.items
