use Rattle.task_meshes.proofs.Ordered.{run_of_block}
use Rattle.task_meshes.proofs.buf_order.bufs_of.Goals as goal

pub returns : goal.returns
returns c =
    run_of_block c.args.bufs.now c.args.block c.first_at-start.result c.end_of-end.result c.requires c.end_of-end.ensures.ordered c.end_of-end.ensures.within
    c.first_at-start.ensures.before c.first_at-start.ensures.after c.end_of-end.ensures.here c.end_of-end.ensures.next
