use Rattle.std.proofs.Common.{◌≡◌, ◌∙◌, sym, ap, subst, ℕ, ◌++◌, length, List}
use Rattle.package_fields.specs.Kernel.{KernelLaws}
use Rattle.react_kernel.specs.Blocks.{totals_at}
use Rattle.react_kernel.proofs.Cells.{length_totals}
use Rattle.react_kernel.proofs.CellSteps.{blank, changed, gathered_is}
use Rattle.react_kernel.proofs.cell.react_cell.Goals as goal

pub returns-then-held-eq0-clause-cell : goal.returns-then-held-eq0-clause-cell
returns-then-held-eq0-clause-cell g c =
    let react = g.C.CellKernel.reacts (g.C.CellKernel.code c.args.kernel.now) in
    let laws = subst (λ (n : ℕ). KernelLaws n react) c.requires.fields (g.met.C.CellKernel.laws c.args.kernel.now) in
    let made = c.args.made.now.items in
    let is = gathered_is (length c.args.flows.now) c.args.place c.args.bufs.now c.deref.result.now made c.args.cell.now c.gather_all-held.new.cell c.requires.cell c.deref.ensures.value c.gather_all-held.ensures.cell in
    (blank react c.args.place (length c.args.flows.now) c.gather_all-held.result c.args.bufs.now made c.gather_all-held.new.cell c.args.flows.now laws is c.gather_all-held.ensures.sum c.if-held-eq0.true).zeros

pub returns-then-held-eq0-clause-flows : goal.returns-then-held-eq0-clause-flows
returns-then-held-eq0-clause-flows g c =
    let react = g.C.CellKernel.reacts (g.C.CellKernel.code c.args.kernel.now) in
    let laws = subst (λ (n : ℕ). KernelLaws n react) c.requires.fields (g.met.C.CellKernel.laws c.args.kernel.now) in
    let made = c.args.made.now.items in
    let is = gathered_is (length c.args.flows.now) c.args.place c.args.bufs.now c.deref.result.now made c.args.cell.now c.gather_all-held.new.cell c.requires.cell c.deref.ensures.value c.gather_all-held.ensures.cell in
    (blank react c.args.place (length c.args.flows.now) c.gather_all-held.result c.args.bufs.now made c.gather_all-held.new.cell c.args.flows.now laws is c.gather_all-held.ensures.sum c.if-held-eq0.true).no_gain

pub returns-then-held-eq0-clause-step : goal.returns-then-held-eq0-clause-step
returns-then-held-eq0-clause-step g c =
    let react = g.C.CellKernel.reacts (g.C.CellKernel.code c.args.kernel.now) in
    let laws = subst (λ (n : ℕ). KernelLaws n react) c.requires.fields (g.met.C.CellKernel.laws c.args.kernel.now) in
    let made = c.args.made.now.items in
    let is = gathered_is (length c.args.flows.now) c.args.place c.args.bufs.now c.deref.result.now made c.args.cell.now c.gather_all-held.new.cell c.requires.cell c.deref.ensures.value c.gather_all-held.ensures.cell in
    (blank react c.args.place (length c.args.flows.now) c.gather_all-held.result c.args.bufs.now made c.gather_all-held.new.cell c.args.flows.now laws is c.gather_all-held.ensures.sum c.if-held-eq0.true).step

pub returns-clause-bufs : goal.returns-clause-bufs
returns-clause-bufs g c =
    let react = g.C.CellKernel.reacts (g.C.CellKernel.code c.args.kernel.now) in
    let n = length c.args.flows.now in
    let made = c.args.made.now.items in
    let is = gathered_is n c.args.place c.args.bufs.now c.deref.result.now made c.args.cell.now c.gather_all-held.new.cell c.requires.cell c.deref.ensures.value c.gather_all-held.ensures.cell in
    let result : c.apply.new.cell ≡ (react (totals_at (c.args.bufs.now ++ made) n c.args.place)).totals = c.apply.ensures.cell ∙ ap (λ (cell : List ℕ). (react cell).totals) is in
    let many : length c.apply.new.cell ≡ n =
    ap (λ (cell : List ℕ). length cell) result
    ∙ ((g.met.C.CellKernel.laws c.args.kernel.now).has_fields (totals_at (c.args.bufs.now ++ made) n c.args.place) (length_totals (c.args.bufs.now ++ made) n c.args.place ∙ sym c.requires.fields)).totals
    ∙ c.requires.fields in
    (changed c.args.layout.now c.args.fresh.block c.args.fresh.stamp n c.args.place (react (totals_at (c.args.bufs.now ++ made) n c.args.place)) c.apply.new.cell c.args.bufs.now made c.add_missing.new.made.items
    c.scatter.new.bufs c.scatter_made.new.made.items many result c.requires.place c.requires.bufs c.in_ok-add_missing.ensures.made c.in_ok-add_missing.ensures.room c.scatter.ensures c.scatter_made.ensures).of_block

pub returns-clause-made : goal.returns-clause-made
returns-clause-made g c =
    let react = g.C.CellKernel.reacts (g.C.CellKernel.code c.args.kernel.now) in
    let n = length c.args.flows.now in
    let made = c.args.made.now.items in
    let is = gathered_is n c.args.place c.args.bufs.now c.deref.result.now made c.args.cell.now c.gather_all-held.new.cell c.requires.cell c.deref.ensures.value c.gather_all-held.ensures.cell in
    let result : c.apply.new.cell ≡ (react (totals_at (c.args.bufs.now ++ made) n c.args.place)).totals = c.apply.ensures.cell ∙ ap (λ (cell : List ℕ). (react cell).totals) is in
    let many : length c.apply.new.cell ≡ n =
    ap (λ (cell : List ℕ). length cell) result
    ∙ ((g.met.C.CellKernel.laws c.args.kernel.now).has_fields (totals_at (c.args.bufs.now ++ made) n c.args.place) (length_totals (c.args.bufs.now ++ made) n c.args.place ∙ sym c.requires.fields)).totals
    ∙ c.requires.fields in
    (changed c.args.layout.now c.args.fresh.block c.args.fresh.stamp n c.args.place (react (totals_at (c.args.bufs.now ++ made) n c.args.place)) c.apply.new.cell c.args.bufs.now made c.add_missing.new.made.items
    c.scatter.new.bufs c.scatter_made.new.made.items many result c.requires.place c.requires.bufs c.in_ok-add_missing.ensures.made c.in_ok-add_missing.ensures.room c.scatter.ensures c.scatter_made.ensures).fresh

pub returns-clause-step : goal.returns-clause-step
returns-clause-step g c =
    let react = g.C.CellKernel.reacts (g.C.CellKernel.code c.args.kernel.now) in
    let n = length c.args.flows.now in
    let made = c.args.made.now.items in
    let is = gathered_is n c.args.place c.args.bufs.now c.deref.result.now made c.args.cell.now c.gather_all-held.new.cell c.requires.cell c.deref.ensures.value c.gather_all-held.ensures.cell in
    let result : c.apply.new.cell ≡ (react (totals_at (c.args.bufs.now ++ made) n c.args.place)).totals = c.apply.ensures.cell ∙ ap (λ (cell : List ℕ). (react cell).totals) is in
    let many : length c.apply.new.cell ≡ n =
    ap (λ (cell : List ℕ). length cell) result
    ∙ ((g.met.C.CellKernel.laws c.args.kernel.now).has_fields (totals_at (c.args.bufs.now ++ made) n c.args.place) (length_totals (c.args.bufs.now ++ made) n c.args.place ∙ sym c.requires.fields)).totals
    ∙ c.requires.fields in
    (changed c.args.layout.now c.args.fresh.block c.args.fresh.stamp n c.args.place (react (totals_at (c.args.bufs.now ++ made) n c.args.place)) c.apply.new.cell c.args.bufs.now made c.add_missing.new.made.items
    c.scatter.new.bufs c.scatter_made.new.made.items many result c.requires.place c.requires.bufs c.in_ok-add_missing.ensures.made c.in_ok-add_missing.ensures.room c.scatter.ensures c.scatter_made.ensures).step
