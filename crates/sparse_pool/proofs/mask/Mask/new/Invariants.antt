use Rattle.std.proofs.Common.{◌≡◌, false, replicate}
use Rattle.sparse_pool.proofs.mask.Mask.new.Given as goal

abbrev pub invariant-loop : goal.invariant-loop
invariant-loop l = l.columns.items ≡ replicate l.counter (replicate l.blocks false)
