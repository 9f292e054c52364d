use Rattle.std.proofs.Common.{◌≡◌, length}
use Rattle.block_layout.specs.Layouts.{interior_len}
use Rattle.dump_writer.specs.Totals.{AreSums, sum_below}
use Rattle.dump_writer.proofs.totals.add_blocks.Given as goal

abbrev pub invariant-loop-leaf : goal.invariant-loop-leaf
invariant-loop-leaf l = record {
  sums : AreSums l.mesh.fields (sum_below l.layout l.mesh l.leaf) l.totals.items;
  room : length l.cells ≡ interior_len l.layout;
}
