use Rattle.std.proofs.Common.{◌≡◌, drop}
use Rattle.block_tree.specs.Around.{with_parents}
use Rattle.block_tree.proofs.balance.add_parents.Given as goal

abbrev pub invariant-loop-i : goal.invariant-loop-i
invariant-loop-i l = with_parents l.shape.dims l.nodes (drop l.i l.places) ≡ with_parents l.shape.dims l.initial.nodes l.places
