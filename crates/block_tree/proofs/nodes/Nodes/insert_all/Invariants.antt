use Rattle.std.proofs.Common.{◌≡◌, drop}
use Rattle.block_tree.specs.Nodes.{with_nodes}
use Rattle.block_tree.proofs.nodes.Nodes.insert_all.Given as goal

abbrev pub invariant-loop-i : goal.invariant-loop-i
invariant-loop-i l = with_nodes l.self (drop l.i l.places) ≡ with_nodes l.initial.self l.places
