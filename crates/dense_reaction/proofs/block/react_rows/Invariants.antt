use Rattle.dense_reaction.specs.Blocks.{HasGained, HasReacted, cell_in}
use Rattle.dense_reaction.proofs.block.react_rows.Given as goal

abbrev pub invariant-loop-place : goal.invariant-loop-place
invariant-loop-place g l = record {
  rows : HasReacted (g.C.CellKernel.reacts (g.C.CellKernel.code l.kernel)) l.place l.fn.rows.items l.rows.items;
  flows : HasGained (λ place. g.C.CellKernel.reacts (g.C.CellKernel.code l.kernel) (cell_in l.fn.rows.items place)) l.place l.fn.flows l.flows;
}
