use Rattle.std.proofs.Common.{◌≡◌, ◌∙◌, ◌<◌, ◌^◌, All, ap, subst, sym, arith}
use Rattle.std.specs.List.{slice_index_or}
use Rattle.std.proofs.lemmas.Option.{get_or_from_slice_get}
use Rattle.morton_order.specs.declared.space.Loc.{Loc}
use Rattle.block_tree.specs.Blocks.{leaves}
use Rattle.field_bufs.specs.declared.buf.FieldBuf.{FieldBuf}
use Rattle.cycle_kernels.specs.Blocks.{leaf_at}
use Rattle.lent_bufs.specs.Buffers.{IsBufferOn}
use Rattle.lent_bufs.specs.Meshes.{mesh_in}
use Rattle.lent_bufs.proofs.Each.{all_done, done_more, no_buf}
use Rattle.stage_tasks.specs.Fluxes.{with_fluxes}
use Rattle.stage_tasks.proofs.Steps.{item_is}
use Rattle.stage_tasks.proofs.fluxes.compute_fluxes.Goals as goal

abbrev origin : Loc
origin = record { level = 0; l1 = 0; l2 = 0; l3 = 0 }

pub leaf_at-level-requires : goal.leaf_at-level-requires
leaf_at-level-requires c =
    let n = c.loop-buf.buf-index in
    let same = ap (λ (b : FieldBuf). b.block) (item_is _ n c.args.bufs.now c.loop-buf.bufs c.buf-item.result c.loop-buf.invariant.done c.loop-buf-test.true c.buf-item.is) in
    let on = c.requires.bufs n no_buf c.loop-buf-test.true in
    omega (arith, same, on.block)

pub portions_of-requires-clause-field : goal.portions_of-requires-clause-field
portions_of-requires-clause-field c =
    let n = c.loop-buf.buf-index in
    let same = ap (λ (b : FieldBuf). b.field) (item_is _ n c.args.bufs.now c.loop-buf.bufs c.buf-item.result c.loop-buf.invariant.done c.loop-buf-test.true c.buf-item.is) in
    let on = c.requires.bufs n no_buf c.loop-buf-test.true in
    omega (arith, same, on.field)

pub portions_of-requires-clause-level : goal.portions_of-requires-clause-level
portions_of-requires-clause-level c =
    let n = c.loop-buf.buf-index in
    let t = c.args.tree.now in
    let item : FieldBuf = slice_index_or c.loop-buf.bufs n c.buf-item.result in
    let same = ap (λ (b : FieldBuf). b.block) (item_is _ n c.args.bufs.now c.loop-buf.bufs c.buf-item.result c.loop-buf.invariant.done c.loop-buf-test.true c.buf-item.is) in
    let on = c.requires.bufs n no_buf c.loop-buf-test.true in
    let at : leaf_at (mesh_in c.args.problem.now t c.args.layout.now) item.block ≡ c.leaf_at-level.result = get_or_from_slice_get (leaves t) item.block c.leaf_at-level.result origin c.leaf_at-level.ensures in
    let here = c.requires.tree.levels item.block (omega (arith, same, on.block)) in
    let level = ap (λ (v : Loc). v.level) at in
    omega (arith, here, level)

pub buf_fluxes-requires-clause-buf : goal.buf_fluxes-requires-clause-buf
buf_fluxes-requires-clause-buf c =
    let n = c.loop-buf.buf-index in
    subst (IsBufferOn c.args.problem.now c.args.tree.now c.args.layout.now) (sym (item_is _ n c.args.bufs.now c.loop-buf.bufs c.buf-item.result c.loop-buf.invariant.done c.loop-buf-test.true c.buf-item.is)) (c.requires.bufs n no_buf c.loop-buf-test.true)

pub buf_fluxes-requires-clause-small : goal.buf_fluxes-requires-clause-small
buf_fluxes-requires-clause-small c =
    let n = c.loop-buf.buf-index in
    subst (λ (b : FieldBuf). All (λ t. t < 2 ^ 62) b.cells) (sym (item_is _ n c.args.bufs.now c.loop-buf.bufs c.buf-item.result c.loop-buf.invariant.done c.loop-buf-test.true c.buf-item.is)) (c.requires.small n no_buf c.loop-buf-test.true)

pub loop-buf-preserved : goal.loop-buf-preserved
loop-buf-preserved c =
    let w = mesh_in c.args.problem.now c.args.tree.now c.args.layout.now in
    let n = c.loop-buf.buf-index in
    let had = c.loop-buf.invariant in
    let is = item_is _ n c.args.bufs.now c.loop-buf.bufs c.buf-item.result had.done c.loop-buf-test.true c.buf-item.is in
    record {
      done = done_more (with_fluxes w) n c.args.bufs.now c.loop-buf.bufs c.buf_fluxes.new.buf had.done c.loop-buf-test.true (c.buf_fluxes.ensures ∙ ap (with_fluxes w) is);
      numbers = c.portions_of.ensures.numbers ∙ had.numbers;
      made = c.in_ok-portions.ensures.made;
    }

pub returns : goal.returns
returns c =
    let had = c.loop-buf.invariant.done in
    all_done _ c.loop-buf.buf-index c.args.bufs.now c.loop-buf.bufs had (omega (arith, c.loop-buf-test.false, had.count))
