use Rattle.stage_tasks.proofs.Listed.{order_is, written_are}
use Rattle.stage_tasks.proofs.fluxes.buf_fluxes.Goals as goal

pub returns : goal.returns
returns c =
    let p = c.args.problem.now in
    let buf = c.args.buf.now in
    written_are p c.args.tree.now c.args.layout.now buf c.args.portions.now c.closed_sides-closed.result _ c.write_fluxes.new.right c.write_fluxes.new.left
    c.requires.tree c.requires.buf c.requires.portions c.requires.level c.closed_sides-closed.ensures (order_is p buf.field c.as_slice.result.now _ c.as_slice.ensures c.requires.buf.field)
    c.write_fluxes.ensures.right_size c.write_fluxes.ensures.left_size c.write_fluxes.ensures.right c.write_fluxes.ensures.left
