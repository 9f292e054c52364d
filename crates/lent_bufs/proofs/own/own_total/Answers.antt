use Rattle.std.proofs.Common.{◌≡◌, ◌+◌, ◌*◌, ℕ, List, slice_index, sum, ◌∙◌, arith}
use Rattle.mesh_rules.specs.Sums.{sum_to}
use Rattle.cycle_kernels.specs.Lists.{own_totals}
use Rattle.lent_bufs.proofs.Rows.{one_more, row_total, rows_are_all, rows_sum}
use Rattle.lent_bufs.proofs.own.own_total.Goals as goal

pub loop-row-preserved : goal.loop-row-preserved
loop-row-preserved c =
    let l = c.args.layout.now in
    let own : List ℕ = own_totals l c.args.cells.now in
    let each : ℕ → ℕ = λ row. sum_to (slice_index l.cells 0) (λ x. slice_index own (row * slice_index l.cells 0 + x)) in
    let more : rows_sum l own (c.loop-row.row + 1) ≡ rows_sum l own c.loop-row.row + each c.loop-row.row = one_more c.loop-row.row each in
    let here : sum c.own_row.result.now ≡ each c.loop-row.row = row_total l own c.own_row.result.now c.loop-row.row c.own_row.ensures.size c.own_row.ensures.totals in
    record {
      total = omega (arith, more, here, c.row_sum-total.ensures.value, c.loop-row.invariant.total);
      most = omega (arith, c.row_sum-total.ensures.most, c.loop-row.invariant.most);
    }

pub returns-clause-value : goal.returns-clause-value
returns-clause-value c =
    let l = c.args.layout.now in
    c.loop-row.invariant.total ∙ rows_are_all l c.args.cells.now c.loop-row.row (omega (arith, c.loop-row-test.false, c.loop-row.auto.row-end))
