use Rattle.std.proofs.Common.{◌≡◌, take}
use Rattle.dense_mask.specs.Totals.{list_total}
use Rattle.dense_mask.proofs.totals.blocks_total.Given as goal

abbrev pub invariant-loop-cells : goal.invariant-loop-cells
invariant-loop-cells l = l.total ≡ list_total (take l.cells-index l.blocks)
