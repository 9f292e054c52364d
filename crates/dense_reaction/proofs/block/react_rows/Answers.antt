use Rattle.std.proofs.Common.{◌^◌, ◌<◌, sym, ap, subst, ℕ, List, sum, arith}
use Rattle.package_fields.specs.Kernel.{KernelLaws}
use Rattle.dense_reaction.specs.Blocks.{HasGained, cell_in}
use Rattle.dense_reaction.proofs.Gains.{gained_more, gained_small}
use Rattle.dense_reaction.proofs.Rows.{in_rows, reacted_more, same_cell}
use Rattle.dense_reaction.proofs.block.react_rows.Goals as goal

pub react_cell-requires-clause-place : goal.react_cell-requires-clause-place
react_cell-requires-clause-place g c =
    let react = g.C.CellKernel.reacts (g.C.CellKernel.code c.args.kernel.now) in
    in_rows react c.loop-place.place c.args.size c.loop-place.place c.args.rows.now.items c.loop-place.rows.items c.loop-place.invariant.rows c.requires.sizes c.loop-place-test.true

pub react_cell-requires-clause-small_cell : goal.react_cell-requires-clause-small_cell
react_cell-requires-clause-small_cell g c =
    let react = g.C.CellKernel.reacts (g.C.CellKernel.code c.args.kernel.now) in
    let n = c.loop-place.place in
    let same = same_cell react n n c.args.rows.now.items c.loop-place.rows.items c.loop-place.invariant.rows (omega arith) in
    subst (λ (v : List ℕ). sum v < 2 ^ 62) (sym same) (c.requires.small_cells n c.loop-place-test.true)

pub react_cell-requires-clause-small_flows : goal.react_cell-requires-clause-small_flows
react_cell-requires-clause-small_flows g c =
    let react = g.C.CellKernel.reacts (g.C.CellKernel.code c.args.kernel.now) in
    let rows = c.args.rows.now.items in
    let n = c.loop-place.place in
    let laws = subst (λ (k : ℕ). KernelLaws k react) c.requires.fields (g.met.C.CellKernel.laws c.args.kernel.now) in
    gained_small react rows n c.args.flows.now c.loop-place.flows laws c.requires.flows (omega (arith, c.loop-place-test.true, c.requires.size)) (λ place h. c.requires.small_cells place (omega (arith, h, c.loop-place-test.true)))
    c.requires.small_flows c.loop-place.invariant.flows

pub loop-place-preserved : goal.loop-place-preserved
loop-place-preserved g c =
    let react = g.C.CellKernel.reacts (g.C.CellKernel.code c.args.kernel.now) in
    let rows = c.args.rows.now.items in
    let n = c.loop-place.place in
    let same = same_cell react n n rows c.loop-place.rows.items c.loop-place.invariant.rows (omega arith) in
    record {
      rows = reacted_more react n c.args.size rows c.loop-place.rows.items c.react_cell.new.rows.items (react (cell_in c.loop-place.rows.items n)).totals c.loop-place.invariant.rows c.requires.sizes c.loop-place-test.true
          (ap (λ (v : List ℕ). (react v).totals) same) c.react_cell.ensures.rows;
      flows = gained_more (λ place. react (cell_in rows place)) n c.args.flows.now c.loop-place.flows c.react_cell.new.flows (react (cell_in c.loop-place.rows.items n)) c.loop-place.invariant.flows
          (ap react same) c.react_cell.ensures.flows;
    }

pub returns-clause-flows : goal.returns-clause-flows
returns-clause-flows g c =
    let react = g.C.CellKernel.reacts (g.C.CellKernel.code c.args.kernel.now) in
    subst (λ (n : ℕ). HasGained (λ place. react (cell_in c.args.rows.now.items place)) n c.args.flows.now c.loop-place.flows) (omega (arith, c.loop-place-test.false, c.loop-place.auto.place-end)) c.loop-place.invariant.flows
