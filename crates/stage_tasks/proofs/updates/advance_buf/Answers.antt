use Rattle.std.proofs.Common.{◌∙◌, ℕ, List, ap}
use Rattle.field_bufs.specs.declared.buf.FieldBuf.{FieldBuf}
use Rattle.lent_bufs.specs.Meshes.{mesh_in}
use Rattle.stage_tasks.proofs.Advanced.{advanced_is}
use Rattle.stage_tasks.proofs.updates.advance_buf.Goals as goal

pub returns : goal.returns
returns c =
    let buf = c.args.buf.now in
    let done = c.advance.ensures in
    ap (λ (v : List ℕ). let b : FieldBuf = record buf { cells = v } in b)
    (advanced_is (mesh_in c.args.problem.now c.args.tree.now c.args.layout.now) buf c.advance.new.cells (done.size ∙ c.requires.sizes.cells) done.passed done.ghosts)
