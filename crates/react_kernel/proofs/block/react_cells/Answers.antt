use Rattle.std.proofs.Common.{◌≡◌, ◌∙◌, ap, subst, ℕ, ◌+◌, ◌*◌, ◌<◌, replicate, slice_index, arith}
use Rattle.package_fields.specs.Kernel.{KernelLaws}
use Rattle.block_layout.specs.Layouts.{interior_len}
use Rattle.react_kernel.specs.Blocks.{inner_place}
use Rattle.react_kernel.specs.BlockSteps.{Reached}
use Rattle.react_kernel.proofs.Gains.{gained_small}
use Rattle.react_kernel.proofs.Reached.{next_sum, reached_more}
use Rattle.react_kernel.proofs.Rows.{all_rows, few_cells, few_places, inner_in_row, inner_within, next_row, row_cell}
use Rattle.react_kernel.proofs.block.react_cells.Goals as goal

pub loop-x-init : goal.loop-x-init
loop-x-init g c =
    let react = g.C.CellKernel.reacts (g.C.CellKernel.code c.args.kernel.now) in
    let n = slice_index c.args.layout.now.cells 0 in
    record {
      blank = c.loop-row.invariant.blank;
      reached = subst (λ (m : ℕ). Reached react c.args.layout.now c.args.fresh.block c.args.fresh.stamp c.args.bufs.now c.args.flows.now m c.loop-row.bufs c.loop-row.made.items c.loop-row.flows) (let e : c.loop-row.row * n ≡ c.loop-row.row * n + 0 = omega arith in e) c.loop-row.invariant.reached;
    }

pub overflow_add-first : goal.overflow_add-first
overflow_add-first g c =
    let l = c.args.layout.now in
    let n = slice_index l.cells 0 in
    let x = c.loop-x.x in
    let k = c.loop-row.row * n + x in
    let at : c.row_start-first.result + x ≡ inner_place l k = inner_in_row l c.loop-row.row x c.row_start-first.result c.loop-x-test.true c.row_start-first.ensures in
    let below : k < interior_len l = row_cell l c.loop-row.row x c.loop-row-test.true c.loop-x-test.true in
    omega (arith, at, inner_within l k l.sound below, few_places l l.sound)

pub react_cell-requires-clause-place : goal.react_cell-requires-clause-place
react_cell-requires-clause-place g c =
    let l = c.args.layout.now in
    let n = slice_index l.cells 0 in
    let x = c.loop-x.x in
    let k = c.loop-row.row * n + x in
    let at : c.row_start-first.result + x ≡ inner_place l k = inner_in_row l c.loop-row.row x c.row_start-first.result c.loop-x-test.true c.row_start-first.ensures in
    let below : k < interior_len l = row_cell l c.loop-row.row x c.loop-row-test.true c.loop-x-test.true in
    omega (arith, at, inner_within l k l.sound below)

pub react_cell-requires-clause-small_cell : goal.react_cell-requires-clause-small_cell
react_cell-requires-clause-small_cell g c =
    let react = g.C.CellKernel.reacts (g.C.CellKernel.code c.args.kernel.now) in
    let l = c.args.layout.now in
    let n = slice_index l.cells 0 in
    let x = c.loop-x.x in
    let k = c.loop-row.row * n + x in
    let at : c.row_start-first.result + x ≡ inner_place l k = inner_in_row l c.loop-row.row x c.row_start-first.result c.loop-x-test.true c.row_start-first.ensures in
    let below : k < interior_len l = row_cell l c.loop-row.row x c.loop-row-test.true c.loop-x-test.true in
    next_sum react l c.args.fresh.block c.args.fresh.stamp c.args.bufs.now c.args.flows.now k (c.row_start-first.result + x) c.loop-x.bufs c.loop-x.made.items c.loop-x.flows l.sound below at c.requires.small_cells c.loop-x.invariant.reached

pub react_cell-requires-clause-small_flows : goal.react_cell-requires-clause-small_flows
react_cell-requires-clause-small_flows g c =
    let react = g.C.CellKernel.reacts (g.C.CellKernel.code c.args.kernel.now) in
    let l = c.args.layout.now in
    let n = slice_index l.cells 0 in
    let x = c.loop-x.x in
    let k = c.loop-row.row * n + x in
    let at : c.row_start-first.result + x ≡ inner_place l k = inner_in_row l c.loop-row.row x c.row_start-first.result c.loop-x-test.true c.row_start-first.ensures in
    let below : k < interior_len l = row_cell l c.loop-row.row x c.loop-row-test.true c.loop-x-test.true in
    let laws = subst (λ (m : ℕ). KernelLaws m react) c.requires.fields (g.met.C.CellKernel.laws c.args.kernel.now) in
    gained_small react l c.args.bufs.now k c.args.flows.now c.loop-x.flows laws (omega (arith, below, few_cells l l.sound)) (λ j h. c.requires.small_cells j (omega (arith, h, below))) c.requires.small_flows c.loop-x.invariant.reached.gained

pub loop-x-preserved : goal.loop-x-preserved
loop-x-preserved g c =
    let react = g.C.CellKernel.reacts (g.C.CellKernel.code c.args.kernel.now) in
    let l = c.args.layout.now in
    let n = slice_index l.cells 0 in
    let x = c.loop-x.x in
    let k = c.loop-row.row * n + x in
    let at : c.row_start-first.result + x ≡ inner_place l k = inner_in_row l c.loop-row.row x c.row_start-first.result c.loop-x-test.true c.row_start-first.ensures in
    let below : k < interior_len l = row_cell l c.loop-row.row x c.loop-row-test.true c.loop-x-test.true in
    let done = c.in_ok-react_cell.ensures in
    record {
      blank = done.cell ∙ ap (λ (m : ℕ). replicate m 0) c.loop-x.invariant.reached.gained.as_many;
      reached = subst (λ (m : ℕ). Reached react c.args.layout.now c.args.fresh.block c.args.fresh.stamp c.args.bufs.now c.args.flows.now m c.react_cell.new.bufs c.react_cell.new.made.items c.react_cell.new.flows) (let e : k + 1 ≡ c.loop-row.row * n + (x + 1) = omega arith in e)
          (reached_more react l c.args.fresh.block c.args.fresh.stamp c.args.bufs.now c.args.flows.now k (c.row_start-first.result + x) c.loop-x.bufs c.loop-x.made.items c.react_cell.new.bufs c.react_cell.new.made.items
          c.loop-x.flows c.react_cell.new.flows l.sound below at c.loop-x.invariant.reached done.bufs done.made done.step done.flows);
    }

pub loop-row-preserved : goal.loop-row-preserved
loop-row-preserved g c =
    let react = g.C.CellKernel.reacts (g.C.CellKernel.code c.args.kernel.now) in
    let n = slice_index c.args.layout.now.cells 0 in
    record {
      blank = c.loop-x.invariant.blank;
      reached = subst (λ (m : ℕ). Reached react c.args.layout.now c.args.fresh.block c.args.fresh.stamp c.args.bufs.now c.args.flows.now m c.loop-x.bufs c.loop-x.made.items c.loop-x.flows) (next_row c.loop-row.row n c.loop-x.x (omega (arith, c.loop-x-test.false, c.loop-x.auto.x-end))) c.loop-x.invariant.reached;
    }

pub returns : goal.returns
returns g c =
    let react = g.C.CellKernel.reacts (g.C.CellKernel.code c.args.kernel.now) in
    let cells = c.args.layout.now.cells in
    subst (λ (m : ℕ). Reached react c.args.layout.now c.args.fresh.block c.args.fresh.stamp c.args.bufs.now c.args.flows.now m c.loop-row.bufs c.loop-row.made.items c.loop-row.flows)
    (all_rows c.loop-row.row (slice_index cells 0) (slice_index cells 1) (slice_index cells 2) (omega (arith, c.loop-row-test.false, c.loop-row.auto.row-end))) c.loop-row.invariant.reached
