use Rattle.std.proofs.Common.{◌≡◌, ◌-◌, length}
use Rattle.block_layout.specs.Layouts.{interior_len}
use Rattle.dump_writer.specs.Totals.{sum_below, sum_on_block}
use Rattle.dump_writer.proofs.Sums.{HasAdded}
use Rattle.dump_writer.proofs.totals.add_block.Given as goal

abbrev pub invariant-loop-field : goal.invariant-loop-field
invariant-loop-field l = record {
  added : HasAdded l.mesh.fields (sum_below l.layout l.mesh l.leaf) (λ f. sum_on_block l.layout l.mesh f l.leaf) l.from l.totals.items;
  room : length l.cells ≡ interior_len l.layout;
}

abbrev pub decreases-loop-field : goal.decreases-loop-field
decreases-loop-field l = l.mesh.fields - l.from
