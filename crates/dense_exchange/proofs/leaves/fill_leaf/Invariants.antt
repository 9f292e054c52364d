use Rattle.std.proofs.Common.{◌≡◌}
use Rattle.dense_exchange.specs.Leaves.{comes_by}
use Rattle.dense_exchange.proofs.Around.{LeafFilling}
use Rattle.dense_exchange.proofs.leaves.fill_leaf.Given as goal

abbrev pub invariant-loop-axis : goal.invariant-loop-axis
invariant-loop-axis l = record {
  filling : LeafFilling l.on l.to l.axis l.fn.ghosts.items l.ghosts.items;
  above : l.above ≡ comes_by l.on l.to l.axis;
}
