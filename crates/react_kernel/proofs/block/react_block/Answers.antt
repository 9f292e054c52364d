use Rattle.std.proofs.Common.{◌≡◌, ◌∙◌, sym, ap, subst, ℕ, length, drop, List, arith}
use Rattle.std.proofs.lemmas.List.{take_at}
use Rattle.package_fields.specs.Kernel.{KernelLaws}
use Rattle.block_layout.specs.Layouts.{interior_len}
use Rattle.field_bufs.specs.declared.buf.FieldBuf.{FieldBuf}
use Rattle.react_kernel.specs.Blocks.{HasReacted}
use Rattle.react_kernel.proofs.Reached.{finished, gained_empty, reacted_empty}
use Rattle.react_kernel.proofs.block.react_block.Goals as goal

pub returns-then-is_empty-clause-reacted : goal.returns-then-is_empty-clause-reacted
returns-then-is_empty-clause-reacted g c =
    let react = g.C.CellKernel.reacts (g.C.CellKernel.code c.args.kernel.now) in
    let laws = subst (λ (m : ℕ). KernelLaws m react) c.requires.fields (g.met.C.CellKernel.laws c.args.kernel.now) in
    subst (λ (made : List FieldBuf). HasReacted react c.args.layout.now c.args.block c.args.stamp (length c.args.flows.now) c.args.bufs.now c.args.bufs.now made) (sym (c.from_vec.ensures ∙ c.new-made.ensures.items))
    (reacted_empty react c.args.layout.now c.args.block c.args.stamp (length c.args.flows.now) c.args.bufs.now laws (c.is_empty.ensures.0 c.if-is_empty.true))

pub returns-then-is_empty-clause-gained : goal.returns-then-is_empty-clause-gained
returns-then-is_empty-clause-gained g c =
    let react = g.C.CellKernel.reacts (g.C.CellKernel.code c.args.kernel.now) in
    let laws = subst (λ (m : ℕ). KernelLaws m react) c.requires.fields (g.met.C.CellKernel.laws c.args.kernel.now) in
    gained_empty react c.args.layout.now (interior_len c.args.layout.now) c.args.bufs.now c.args.flows.now laws (c.is_empty.ensures.0 c.if-is_empty.true)

pub returns-clause-reacted : goal.returns-clause-reacted
returns-clause-reacted g c =
    let react = g.C.CellKernel.reacts (g.C.CellKernel.code c.args.kernel.now) in
    let now = c.react_cells.new.bufs in
    let here = c.into_vec-here.result in
    let many : length now ≡ here.len = c.react_cells.auto.bufs ∙ (ap (λ (bufs : List FieldBuf). length bufs) c.deref_mut.ensures.value ∙ sym here.ok.0) in
    finished react c.args.layout.now c.args.block c.args.stamp c.args.bufs.now c.deref_mut.result.now c.args.flows.now c.deref_mut-3.result.now now c.from_vec-2.result c.react_cells.new.made.items c.from_vec-4.result c.react_cells.new.flows
    (c.deref_mut.ensures.value ∙ (c.into_vec-here.ensures ∙ c.replace.ensures.value)) (c.deref_mut-3.ensures.value ∙ (c.into_vec-passed.ensures ∙ c.replace-2.ensures.value))
    (c.from_vec-2.ensures ∙ take_at now (drop (length now) here.items) here.len (omega (arith, many))) c.from_vec-4.ensures c.in_ok-react_cells.ensures
