use Rattle.std.proofs.Common.{◌∙◌, sym, ap, subst, ℕ, List, sum}
use Rattle.package_fields.specs.Kernel.{KernelLaws}
use Rattle.dense_reaction.specs.Blocks.{cell_in}
use Rattle.dense_reaction.proofs.Cells.{blank}
use Rattle.dense_reaction.proofs.cell.react_cell.Goals as goal

pub returns-then-held-eq0-clause-rows : goal.returns-then-held-eq0-clause-rows
returns-then-held-eq0-clause-rows g c =
    let react = g.C.CellKernel.reacts (g.C.CellKernel.code c.args.kernel.now) in
    let laws = subst (λ (n : ℕ). KernelLaws n react) c.requires.fields (g.met.C.CellKernel.laws c.args.kernel.now) in
    let none = ap (λ (v : List (List ℕ)). sum (cell_in v c.args.place)) (sym c.deref.ensures.value) ∙ (sym c.gather-held.ensures.sum ∙ c.if-held-eq0.true) in
    (blank react c.args.place c.args.rows.now.items c.args.flows.now laws none).written

pub returns-then-held-eq0-clause-flows : goal.returns-then-held-eq0-clause-flows
returns-then-held-eq0-clause-flows g c =
    let react = g.C.CellKernel.reacts (g.C.CellKernel.code c.args.kernel.now) in
    let laws = subst (λ (n : ℕ). KernelLaws n react) c.requires.fields (g.met.C.CellKernel.laws c.args.kernel.now) in
    let none = ap (λ (v : List (List ℕ)). sum (cell_in v c.args.place)) (sym c.deref.ensures.value) ∙ (sym c.gather-held.ensures.sum ∙ c.if-held-eq0.true) in
    (blank react c.args.place c.args.rows.now.items c.args.flows.now laws none).no_gain
