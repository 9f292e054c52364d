use Rattle.std.proofs.Common.{List, ℕ, [], slice_index, arith, ap, ◌∙◌}
use Rattle.std.proofs.lemmas.List.{get_or_read}
use Rattle.dense_reaction.proofs.Cells.{gathered_all, gathered_fits, gathered_more}
use Rattle.dense_reaction.proofs.cell.gather.Goals as goal

pub overflow_add-sum : goal.overflow_add-sum
overflow_add-sum c =
    let rows = c.args.rows.now in
    let f = c.loop-field.field in
    let row = c.as_slice.ensures ∙ get_or_read rows f c.index-rows-field.result c.loop-field-test.true c.index-rows-field.is [] in
    let x = slice_index c.as_slice.result.now c.args.place in
    let e = gathered_fits rows c.args.place f c.loop-field.cell c.loop-field.sum x c.loop-field.invariant c.loop-field-test.true (ap (λ (v : List ℕ). slice_index v c.args.place) row) in
    omega (arith, e, c.requires.small)

pub loop-field-preserved : goal.loop-field-preserved
loop-field-preserved c =
    let rows = c.args.rows.now in
    let f = c.loop-field.field in
    let row = c.as_slice.ensures ∙ get_or_read rows f c.index-rows-field.result c.loop-field-test.true c.index-rows-field.is [] in
    gathered_more rows c.args.place f c.loop-field.cell c.loop-field.sum (slice_index c.as_slice.result.now c.args.place) c.loop-field.invariant c.loop-field-test.true (c.loop-field.auto.cell ∙ c.requires.fields)
    (ap (λ (v : List ℕ). slice_index v c.args.place) row)

pub returns-clause-cell : goal.returns-clause-cell
returns-clause-cell c =
    gathered_all c.args.rows.now c.args.place c.loop-field.field c.loop-field.cell c.loop-field.sum c.loop-field.invariant c.loop-field-test.false (c.loop-field.auto.cell ∙ c.requires.fields)
