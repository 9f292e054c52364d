use Rattle.std.proofs.Common.{ℕ, ◌<◌, slice_index_or}
use Rattle.kernel_bench.specs.declared.block.Block.{Block}
use Rattle.kernel_bench.specs.Small.{HasSmall}
use Rattle.kernel_bench.proofs.rounds.have_small.Given as goal

abbrev pub invariant-loop-block : goal.invariant-loop-block
invariant-loop-block l = (k : ℕ) (d : Block) → k < l.block-index → HasSmall (slice_index_or l.blocks k d)
