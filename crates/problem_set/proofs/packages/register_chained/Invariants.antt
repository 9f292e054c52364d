use Rattle.std.proofs.Common.{take}
use Rattle.problem_set.specs.Packages.{package_names}
use Rattle.problem_set.proofs.PackageLemmas.{IsRegistered}
use Rattle.problem_set.proofs.packages.register_chained.Given as goal

abbrev pub invariant-loop-i : goal.invariant-loop-i
invariant-loop-i l = IsRegistered l.blocks (package_names (take l.i l.blocks)) l.fields l.moves
