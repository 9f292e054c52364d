use Rattle.std.proofs.Common.{arith}
use Rattle.tree_change.proofs.Following.{node_at}
use Rattle.tree_change.proofs.wanted.kept_nodes.Goals as goal

pub keep-requires-clause-inside : goal.keep-requires-clause-inside
keep-requires-clause-inside c = (node_at c.args.tree.now c.args.nodes.now c.loop-i.i (record { level = 0; l1 = 0; l2 = 0; l3 = 0 }) c.len.ensures.kept c.requires.nodes (omega arith)).0

pub keep-requires-clause-room : goal.keep-requires-clause-room
keep-requires-clause-room c = (node_at c.args.tree.now c.args.nodes.now c.loop-i.i (record { level = 0; l1 = 0; l2 = 0; l3 = 0 }) c.len.ensures.kept c.requires.nodes (omega arith)).1
