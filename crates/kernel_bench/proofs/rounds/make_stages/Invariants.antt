use Rattle.std.proofs.Common.{ℕ, ◌<◌, ◌≤◌, length, slice_index_or}
use Rattle.kernel_bench.specs.declared.block.Block.{Block}
use Rattle.kernel_bench.specs.Small.{HasSmall}
use Rattle.kernel_bench.proofs.rounds.make_stages.Given as goal

-- the blocks to come are small
abbrev pub invariant-loop-block : goal.invariant-loop-block
invariant-loop-block l = (k : ℕ) (d : Block) → l.block-index ≤ k → k < length l.blocks → HasSmall (slice_index_or l.blocks k d)
