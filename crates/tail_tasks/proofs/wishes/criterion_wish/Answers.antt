use Rattle.std.proofs.Common.{◌≡◌, ℕ, List, [], slice_index, ap, sym, ◌∙◌}
use Rattle.std.proofs.lemmas.List.{drop_all, get_or_read}
use Rattle.block_layout.specs.Indices.{number_of}
use Rattle.block_layout.specs.Regions.{interior}
use Rattle.block_regions.specs.Boxes.{box_of}
use Rattle.cell_boxes.specs.declared.boxes.BoxIn.{BoxIn}
use Rattle.field_bufs.specs.declared.buf.FieldBuf.{FieldBuf}
use Rattle.field_bufs.specs.Buffers.{cells_of}
use Rattle.mesh_rules.specs.Tags.{wish_by}
use Rattle.refine_tags.specs.Measures.{measured_in, total_at}
use Rattle.cycle_kernels.specs.Lists.{own_totals}
use Rattle.lent_bufs.proofs.Each.{no_buf}
use Rattle.tail_tasks.proofs.Wished.{found_wishes}
use Rattle.tail_tasks.proofs.wishes.criterion_wish.Goals as goal

pub returns-then-buf-criterion : goal.returns-then-buf-criterion
returns-then-buf-criterion c =
    let crit = c.args.criterion.now in
    let l = c.args.layout.now in
    let level = c.args.level in
    let bufs = c.args.bufs.now in
    let n = c.loop-buf.buf-index in
    c.wish_of.ensures
    ∙ ap (λ (b : BoxIn). wish_by crit level (measured_in crit.method l level (total_at c.as_slice.result.now b))) c.own_cells.ensures.value
    ∙ ap (λ (v : List ℕ). wish_by crit level (measured_in crit.method l level (total_at v (box_of l (interior l).low)))) c.as_slice.ensures
    ∙ found_wishes l level crit bufs n c.buf-item.result c.loop-buf-test.true (get_or_read bufs n c.buf-item.result c.loop-buf-test.true c.buf-item.is no_buf) c.if-buf-criterion.true c.loop-buf.invariant

pub returns : goal.returns
returns c =
    let crit = c.args.criterion.now in
    let l = c.args.layout.now in
    let level = c.args.level in
    let bufs = c.args.bufs.now in
    let n = c.loop-buf.buf-index in
    let none : cells_of bufs crit.field ≡ [] = c.loop-buf.invariant ∙ ap (λ (v : List FieldBuf). cells_of v crit.field) (drop_all n bufs c.loop-buf-test.false) in
    c.wish_of_none.ensures ∙ ap (λ (v : List ℕ). wish_by crit level (measured_in crit.method l level (λ i. slice_index (own_totals l v) (number_of l.cells i)))) (sym none)
