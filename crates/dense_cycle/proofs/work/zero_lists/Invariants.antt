use Rattle.std.proofs.Common.{◌≡◌, replicate}
use Rattle.block_layout.specs.Layouts.{len}
use Rattle.dense_cycle.proofs.work.zero_lists.Given as goal

abbrev pub invariant-loop-leaf : goal.invariant-loop-leaf
invariant-loop-leaf l = l.lists.items ≡ replicate l.leaf (replicate (len l.layout) 0)
