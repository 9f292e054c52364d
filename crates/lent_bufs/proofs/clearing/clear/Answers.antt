use Rattle.std.proofs.Common.{◌≡◌, List, ℕ, length, ap, ◌∙◌}
use Rattle.field_bufs.specs.declared.buf.FieldBuf.{FieldBuf}
use Rattle.lent_bufs.specs.Cleared.{cleared_cells}
use Rattle.lent_bufs.proofs.Clears.{written_whole}
use Rattle.lent_bufs.proofs.clearing.clear.Goals as goal

pub returns-clause-buffer : goal.returns-clause-buffer
returns-clause-buffer c =
    let old = c.args.buf.now.cells in
    let new = c.clear_own.new.cells in
    let long : length new ≡ length old = c.clear_own.auto.cells ∙ ap (λ (v : List ℕ). length v) c.as_mut_slice.ensures.value in
    let is = c.clear_own.ensures ∙ ap (cleared_cells c.args.layout.now) c.as_mut_slice.ensures.value in
    ap (λ (v : List ℕ). let b : FieldBuf = record c.args.buf.now { cells = v } in b) (written_whole old new long ∙ is)
