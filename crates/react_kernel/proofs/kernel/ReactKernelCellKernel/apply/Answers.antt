use Rattle.std.proofs.Common.{◌∙◌, sym, ap, subst, ◌≤◌, length, List, arith}
use Rattle.std.specs.Prelude.{All}
use Rattle.package_fields.specs.Kernel.{with_reacted}
use Rattle.deck_entries.specs.declared.entries.Reaction.{Reaction}
use Rattle.mesh_rules.specs.Reaction.{react_cell}
use Rattle.react_kernel.specs.Code.{CanReact}
use Rattle.react_kernel.specs.ReactionLaws.{read_back}
use Rattle.react_kernel.proofs.Flows.{applied_all, applied_next, applied_none, applied_small, applied_sum}
use Rattle.react_kernel.proofs.kernel.ReactKernelCellKernel.apply.Goals as goal

pub loop-reaction-init : goal.loop-reaction-init
loop-reaction-init c = applied_none c.as_slice-reactions.result.now c.args.cell.now c.args.flows.now (c.requires.cell_fields ∙ sym c.requires.flow_fields)

pub react_once-requires-clause-small_cell : goal.react_once-requires-clause-small_cell
react_once-requires-clause-small_cell c =
    let s = c.args.self.now in
    let can = subst (λ (xs : List Reaction). All (CanReact s.fields) xs) (sym c.as_slice-reactions.ensures.value) s.sound in
    let l = c.loop-reaction in
    let kept = applied_sum s.fields c.as_slice-reactions.result.now c.args.cell.now c.args.flows.now l.reaction-index l.cell l.flows c.requires.cell_fields can l.invariant in
    omega (arith, kept.0, c.requires.small_cell)

pub react_once-requires-clause-small_flows : goal.react_once-requires-clause-small_flows
react_once-requires-clause-small_flows c =
    let s = c.args.self.now in
    let can = subst (λ (xs : List Reaction). All (CanReact s.fields) xs) (sym c.as_slice-reactions.ensures.value) s.sound in
    let few = subst (λ (xs : List Reaction). length xs ≤ 256) (sym c.as_slice-reactions.ensures.value) s.few in
    let l = c.loop-reaction in
    applied_small s.fields c.as_slice-reactions.result.now c.args.cell.now c.args.flows.now l.reaction-index l.cell l.flows c.requires.cell_fields c.requires.flow_fields can few c.requires.small_cell c.requires.small_flows l.invariant

pub loop-reaction-preserved : goal.loop-reaction-preserved
loop-reaction-preserved c =
    let s = c.args.self.now in
    let can = subst (λ (xs : List Reaction). All (CanReact s.fields) xs) (sym c.as_slice-reactions.ensures.value) s.sound in
    let l = c.loop-reaction in
    applied_next s.fields c.as_slice-reactions.result.now c.args.cell.now c.args.flows.now l.reaction-index _ l.cell c.react_once.new.cell l.flows c.react_once.new.flows c.requires.cell_fields c.requires.flow_fields can c.loop-reaction-test.true l.invariant c.react_once.ensures.cell c.react_once.ensures.flows

pub returns-clause-cell : goal.returns-clause-cell
returns-clause-cell c =
    let s = c.args.self.now in
    let l = c.loop-reaction in
    let all = applied_all c.as_slice-reactions.result.now c.args.cell.now c.args.flows.now l.reaction-index l.cell l.flows (omega (arith, c.loop-reaction-test.false)) l.invariant in
    all.0 ∙ ap (λ (xs : List Reaction). (react_cell xs c.args.cell.now).totals) (c.as_slice-reactions.ensures.value ∙ sym (read_back s.reactions.items))

pub returns-clause-flows : goal.returns-clause-flows
returns-clause-flows c =
    let s = c.args.self.now in
    let l = c.loop-reaction in
    let all = applied_all c.as_slice-reactions.result.now c.args.cell.now c.args.flows.now l.reaction-index l.cell l.flows (omega (arith, c.loop-reaction-test.false)) l.invariant in
    all.1 ∙ ap (λ (xs : List Reaction). with_reacted c.args.flows.now (react_cell xs c.args.cell.now)) (c.as_slice-reactions.ensures.value ∙ sym (read_back s.reactions.items))
