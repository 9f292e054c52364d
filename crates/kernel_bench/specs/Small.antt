-- For the code: blocks whose totals are small.
use Rattle.std.specs.Prelude.{◌<◌, ◌^◌, List, All}
use Rattle.kernel_bench.specs.declared.block.Block.{Block}

-- the totals of a block, and those that stages make, are below 2^62
pub record HasSmall (block : Block) : Type 0 where
  pub cells : All (λ t. t < 2 ^ 62) block.cells.items
  pub next : All (λ t. t < 2 ^ 62) block.next.items

-- so are those of all blocks
abbrev pub HaveSmall : List Block → Type 0
HaveSmall blocks = All HasSmall blocks
