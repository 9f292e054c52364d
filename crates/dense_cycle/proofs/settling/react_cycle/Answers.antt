use Rattle.std.proofs.Common.{◌∙◌, ◌<◌, ◌^◌, ap, arith, subst}
use Rattle.package_fields.specs.Kernel.{KernelLaws}
use Rattle.problem_set.specs.SettingsOf.{settings_of}
use Rattle.mesh_rules.specs.Fields.{field_count}
use Rattle.mesh_rules.specs.Cycle.{State, react_held}
use Rattle.dense_cycle.specs.Flows.{drop_of_reaction}
use Rattle.dense_cycle.specs.Held.{held_of, state_of}
use Rattle.dense_cycle.proofs.Added.{all_in_table}
use Rattle.dense_cycle.proofs.Cycles.{reacted_sums, reaction_drops_few, staged_small}
use Rattle.dense_cycle.proofs.settling.react_cycle.Goals as goal

pub add_each-requires-clause-numbers : goal.add_each-requires-clause-numbers
add_each-requires-clause-numbers g c =
    let p = c.args.problem.now in
    staged_small p (state_of c.args.tree.now p.cells c.args.state.now) c.requires.fit c.in_ok-staged.staged.sums c.in_ok-staged.ensures.sums

pub add_each-requires-clause-more : goal.add_each-requires-clause-more
add_each-requires-clause-more g c =
    let p = c.args.problem.now in
    let q = settings_of p in
    let react = g.R.MeshReaction.reacts c.args.reaction.now in
    let laws = subst (λ k. KernelLaws k react) c.requires.fields (g.met.R.MeshReaction.laws c.args.reaction.now) in
    let s : State = state_of c.args.tree.now p.cells c.args.state.now in
    let h = held_of c.args.tree.now p.cells c.in_ok-staged.staged.held in
    all_in_table (λ n. n < 2 ^ 64) (field_count q) (drop_of_reaction q react h) c.as_slice-3.result.now 0 (c.as_slice-3.ensures.value ∙ c.in_ok-reacted.ensures.dropped)
    (λ f inside. let few = reaction_drops_few p react s laws c.requires.fit h c.in_ok-staged.ensures.held f inside in omega (arith, few))

pub returns-clause-held : goal.returns-clause-held
returns-clause-held g c =
    let q = settings_of c.args.problem.now in
    let react = g.R.MeshReaction.reacts c.args.reaction.now in
    c.in_ok-reacted.ensures.held ∙ ap (react_held q react) c.in_ok-staged.ensures.held

pub returns-clause-sums : goal.returns-clause-sums
returns-clause-sums g c =
    let p = c.args.problem.now in
    let react = g.R.MeshReaction.reacts c.args.reaction.now in
    reacted_sums p react (state_of c.args.tree.now p.cells c.args.state.now) c.requires.fit (held_of c.args.tree.now p.cells c.in_ok-staged.staged.held) c.in_ok-staged.staged.sums _
    c.as_slice.result.now c.as_slice-2.result.now c.as_slice-3.result.now c.in_ok-staged.ensures.held c.in_ok-staged.ensures.sums
    (c.as_slice.ensures.value ∙ c.in_ok-reacted.ensures.made) (c.as_slice-2.ensures.value ∙ c.in_ok-reacted.ensures.used) (c.as_slice-3.ensures.value ∙ c.in_ok-reacted.ensures.dropped)
    c.set_reacted.ensures.count c.set_reacted.ensures.each c.add_each.ensures.count c.add_each.ensures.each
