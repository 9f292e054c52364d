use Rattle.std.proofs.Common.{◌∙◌, ℕ, ◌<◌, ◌^◌, List, ap, arith, subst}
use Rattle.package_fields.specs.Kernel.{KernelLaws}
use Rattle.problem_set.specs.SettingsOf.{settings_of}
use Rattle.mesh_rules.specs.Fields.{field_count}
use Rattle.mesh_rules.specs.Tags.{counters_after, tags_after}
use Rattle.mesh_rules.specs.Cycle.{Held, State, check_held, checked}
use Rattle.dense_mesh.specs.Meshes.{mesh_of}
use Rattle.dense_cycle.specs.Flows.{drop_at_check}
use Rattle.dense_cycle.specs.Held.{held_of, state_of}
use Rattle.dense_cycle.proofs.Added.{all_in_table}
use Rattle.dense_cycle.proofs.Cycles.{check_drops_few, reacted_mask, reacted_small, settled_drops}
use Rattle.dense_cycle.proofs.settling.settle.Goals as goal

pub check_held-requires-clause-fits : goal.check_held-requires-clause-fits
check_held-requires-clause-fits g c =
    let p = c.args.problem.now in
    let react = g.R.MeshReaction.reacts c.args.reaction.now in
    reacted_mask p react (state_of c.args.tree.now p.cells c.args.state.now) c.requires.fit (held_of c.args.tree.now p.cells c.in_ok-reacted.reacted.held) c.in_ok-reacted.ensures.held

pub add_each-requires-clause-numbers : goal.add_each-requires-clause-numbers
add_each-requires-clause-numbers g c =
    let p = c.args.problem.now in
    let react = g.R.MeshReaction.reacts c.args.reaction.now in
    let laws = subst (λ k. KernelLaws k react) c.requires.fields (g.met.R.MeshReaction.laws c.args.reaction.now) in
    reacted_small p react (state_of c.args.tree.now p.cells c.args.state.now) laws c.requires.fit c.in_ok-reacted.reacted.sums c.in_ok-reacted.ensures.sums

pub add_each-requires-clause-more : goal.add_each-requires-clause-more
add_each-requires-clause-more g c =
    let p = c.args.problem.now in
    let q = settings_of p in
    let react = g.R.MeshReaction.reacts c.args.reaction.now in
    let laws = subst (λ k. KernelLaws k react) c.requires.fields (g.met.R.MeshReaction.laws c.args.reaction.now) in
    let s : State = state_of c.args.tree.now p.cells c.args.state.now in
    let h = held_of c.args.tree.now p.cells c.in_ok-reacted.reacted.held in
    all_in_table (λ n. n < 2 ^ 64) (field_count q) (drop_at_check q h) c.as_slice-3.result.now 0 (c.as_slice-3.ensures.value ∙ c.in_ok-checked.ensures.dropped)
    (λ f inside. let few = check_drops_few p react s laws c.requires.fit h c.in_ok-reacted.ensures.held f inside in omega (arith, few))

pub returns-clause-state : goal.returns-clause-state
returns-clause-state g c =
    let p = c.args.problem.now in
    let q = settings_of p in
    let t = c.args.tree.now in
    let react = g.R.MeshReaction.reacts c.args.reaction.now in
    let s : State = state_of t p.cells c.args.state.now in
    let counters_is = c.from_vec.ensures ∙ c.in_ok-leaf_tags.ensures.counters
    ∙ ap (λ (v : List (List (List ℕ))). counters_after q (mesh_of t p.cells v) c.as_slice-2.result.now) c.as_slice.ensures
    ∙ ap (λ (v : List ℕ). counters_after q (mesh_of t p.cells c.in_ok-reacted.reacted.held.lists) v) c.as_slice-2.ensures
    ∙ ap (λ (h : Held). counters_after q h.mesh c.args.state.now.counters) c.in_ok-reacted.ensures.held in
    ap (λ (h : Held). let x : State = record { mesh = h.mesh; mask = h.mask; counters = c.from_vec.result } in x) (c.in_ok-checked.ensures.held ∙ ap (check_held q) c.in_ok-reacted.ensures.held)
    ∙ ap (λ (v : List ℕ). let h = checked q react s in let x : State = record { mesh = h.mesh; mask = h.mask; counters = v } in x) counters_is

pub returns-clause-tags : goal.returns-clause-tags
returns-clause-tags g c =
    let q = settings_of c.args.problem.now in
    let t = c.args.tree.now in
    c.in_ok-leaf_tags.ensures.tags
    ∙ ap (λ (v : List (List (List ℕ))). tags_after q (mesh_of t q.cells v) c.as_slice-2.result.now) c.as_slice.ensures
    ∙ ap (λ (v : List ℕ). tags_after q (mesh_of t q.cells c.in_ok-reacted.reacted.held.lists) v) c.as_slice-2.ensures
    ∙ ap (λ (h : Held). tags_after q h.mesh c.args.state.now.counters) c.in_ok-reacted.ensures.held

pub returns-clause-drops : goal.returns-clause-drops
returns-clause-drops g c =
    let p = c.args.problem.now in
    let react = g.R.MeshReaction.reacts c.args.reaction.now in
    let s : State = state_of c.args.tree.now p.cells c.args.state.now in
    c.from_vec-3.ensures
    ∙ settled_drops p react s c.requires.fit (held_of c.args.tree.now p.cells c.in_ok-reacted.reacted.held) c.in_ok-reacted.reacted.sums c.add_each.new.numbers.items c.as_slice-3.result.now
    c.in_ok-reacted.ensures.held c.in_ok-reacted.ensures.sums (c.as_slice-3.ensures.value ∙ c.in_ok-checked.ensures.dropped) c.add_each.ensures.count c.add_each.ensures.each
