use Rattle.std.proofs.Common.{◌≡◌, ◌+◌, ◌*◌, length, replicate, slice_index}
use Rattle.react_kernel.specs.BlockSteps.{Reached}
use Rattle.react_kernel.proofs.block.react_cells.Given as goal

abbrev pub invariant-loop-row : goal.invariant-loop-row
invariant-loop-row g l = record {
  blank : l.cell ≡ replicate (length l.fn.flows) 0;
  reached : Reached (g.C.CellKernel.reacts (g.C.CellKernel.code l.kernel)) l.layout l.fresh.block l.fresh.stamp l.fn.bufs l.fn.flows (l.row * slice_index l.layout.cells 0) l.bufs l.made.items l.flows;
}

abbrev pub invariant-loop-x : goal.invariant-loop-x
invariant-loop-x g l = record {
  blank : l.cell ≡ replicate (length l.fn.flows) 0;
  reached : Reached (g.C.CellKernel.reacts (g.C.CellKernel.code l.kernel)) l.layout l.fresh.block l.fresh.stamp l.fn.bufs l.fn.flows (l.row * slice_index l.layout.cells 0 + l.x) l.bufs l.made.items l.flows;
}
