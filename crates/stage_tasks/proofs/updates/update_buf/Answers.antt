use Rattle.std.proofs.Common.{◌∙◌, ◌+◌, cond, sum, ap, subst, sym}
use Rattle.field_bufs.specs.declared.buf.FieldBuf.{FieldBuf}
use Rattle.field_bufs.specs.Buffers.{HasSizes}
use Rattle.cycle_kernels.specs.Lists.{ghosts_in, own_totals}
use Rattle.cycle_kernel_links.proofs.Lists.{whole_long}
use Rattle.lent_bufs.specs.Cleared.{left_if}
use Rattle.lent_bufs.specs.Meshes.{mesh_in}
use Rattle.stage_tasks.specs.Updates.{next_totals}
use Rattle.stage_tasks.proofs.Advanced.{dropped_next}
use Rattle.stage_tasks.proofs.Flows.{flow_is}
use Rattle.stage_tasks.proofs.updates.update_buf.Goals as goal

pub clear_unless-dropped-requires : goal.clear_unless-dropped-requires
clear_unless-dropped-requires c =
    let l = c.args.layout.now in
    let w = mesh_in c.args.problem.now c.args.tree.now l in
    let buf = c.args.buf.now in
    subst (HasSizes l) (sym c.advance_buf.ensures) (record {
      cells = whole_long l (next_totals w buf) (ghosts_in l buf.cells);
      right = c.requires.buf.sizes.right;
      left = c.requires.buf.sizes.left;
    })

pub returns-clause-buffer : goal.returns-clause-buffer
returns-clause-buffer c =
    ap (λ (v : FieldBuf). let b : FieldBuf = record v { stamp = v.stamp + 1 } in b)
    (c.clear_unless-dropped.ensures.buffer ∙ ap (left_if c.args.kept c.args.layout.now) c.advance_buf.ensures)

pub returns-clause-change : goal.returns-clause-change
returns-clause-change c =
    let l = c.args.layout.now in
    let w = mesh_in c.args.problem.now c.args.tree.now l in
    let buf = c.args.buf.now in
    let flows = c.leaf_flows-flows.ensures in
    record {
      inflow = flow_is w buf.block buf.right buf.left c.leaf_flows-flows.result.inflow c.requires.buf.block flows.inflow;
      outflow = flow_is w buf.block buf.left buf.right c.leaf_flows-flows.result.outflow c.requires.buf.block flows.outflow;
      dropped = c.clear_unless-dropped.ensures.dropped ∙ ap (λ (b : FieldBuf). cond c.args.kept 0 (sum (own_totals l b.cells))) c.advance_buf.ensures ∙ dropped_next w c.args.kept buf;
      most_in = flows.most_in;
      most_out = flows.most_out;
      most_dropped = c.clear_unless-dropped.ensures.most;
    }
