use Rattle.std.proofs.Common.{subst, sym, ◌∙◌}
use Rattle.std.specs.Result.{OnOk}
use Rattle.remesh.specs.Stores.{Fills}
use Rattle.cell_block.specs.State.{place_of}
use Rattle.remesh.proofs.Filled.{absent, home, no_idle}
use Rattle.remesh.proofs.stores.put.Goals as goal

pub replace-requires-clause-home : goal.replace-requires-clause-home
replace-requires-clause-home c = home c.args.mesh.now (place_of c.args.buf) (sym c.allocated.ensures ∙ c.if-allocated.true) (c.requires.whole (place_of c.args.buf))

pub allocate-requires-clause-absent : goal.allocate-requires-clause-absent
allocate-requires-clause-absent c = absent c.args.mesh.now (place_of c.args.buf) (sym c.allocated.ensures ∙ c.if-allocated.false)

pub returns-else-allocated : goal.returns-else-allocated
returns-else-allocated c =
    let s = c.args.mesh.now in
    let at = place_of c.args.buf in
    subst (λ k. OnOk c.allocate.result (Fills s c.allocate.new.mesh at c.args.buf k)) (sym (no_idle s at (absent s at (sym c.allocated.ensures ∙ c.if-allocated.false)))) c.allocate.ensures
