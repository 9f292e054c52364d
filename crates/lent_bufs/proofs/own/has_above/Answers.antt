use Rattle.std.proofs.Common.{◌+◌, ◌*◌, ◌<◌, ℕ, List, slice_index, subst, sym, ◌∙◌, arith}
use Rattle.block_layout.specs.Layouts.{interior_len}
use Rattle.cycle_kernels.specs.Lists.{own_totals}
use Rattle.cycle_kernel_links.proofs.Lists.{own_long}
use Rattle.react_kernel.proofs.Rows.{all_rows, row_cell}
use Rattle.lent_bufs.proofs.Above.{IsAbove, none_is_above, not_idle, rows_calm, some_is_above}
use Rattle.lent_bufs.proofs.own.has_above.Goals as goal

pub returns-then-not-is_idle : goal.returns-then-not-is_idle
returns-then-not-is_idle c =
    let l = c.args.layout.now in
    let n = slice_index l.cells 0 in
    let own : List ℕ = own_totals l c.args.cells.now in
    let row = c.loop-row.row in
    let there : IsAbove c.own_row.result.now c.args.threshold = not_idle c.own_row.result.now c.args.threshold (sym c.is_idle.ensures ∙ c.if-not-is_idle.true) in
    let few : there.at < n = omega (arith, there.there, c.own_row.ensures.size) in
    let long = own_long l c.args.cells.now in
    let inside : row * n + there.at < interior_len l = row_cell l row there.at c.loop-row-test.true few in
    sym (some_is_above own c.args.threshold (row * n + there.at) (omega (arith, long, inside)) (subst (λ (v : ℕ). c.args.threshold < v) (c.own_row.ensures.totals there.at few) there.above))

pub loop-row-preserved : goal.loop-row-preserved
loop-row-preserved c =
    let l = c.args.layout.now in
    rows_calm (slice_index l.cells 0) c.loop-row.row c.args.threshold (own_totals l c.args.cells.now) c.own_row.result.now c.loop-row.invariant c.own_row.ensures.size c.own_row.ensures.totals (sym c.is_idle.ensures ∙ c.if-not-is_idle.false)

pub returns : goal.returns
returns c =
    let l = c.args.layout.now in
    let own : List ℕ = own_totals l c.args.cells.now in
    let long = own_long l c.args.cells.now in
    let all = all_rows c.loop-row.row (slice_index l.cells 0) (slice_index l.cells 1) (slice_index l.cells 2) (omega (arith, c.loop-row-test.false, c.loop-row.auto.row-end)) in
    sym (none_is_above own c.args.threshold (λ k small. c.loop-row.invariant k (omega (arith, all, long, small))))
