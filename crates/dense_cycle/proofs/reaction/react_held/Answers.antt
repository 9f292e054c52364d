use Rattle.std.proofs.Common.{◌≡◌, ◌∙◌, ℕ, List, ap, length, subst, sym}
use Rattle.package_fields.specs.Kernel.{KernelLaws}
use Rattle.block_tree.specs.Blocks.{leaves}
use Rattle.problem_set.specs.SettingsOf.{settings_of}
use Rattle.mesh_rules.specs.Sums.{table}
use Rattle.mesh_rules.specs.Mesh.{Mesh}
use Rattle.mesh_rules.specs.Fields.{field_count}
use Rattle.mesh_rules.specs.Mask.{Mask, dropped_of, kept_by_reaction}
use Rattle.mesh_rules.specs.Reaction.{made_of, react_mesh, used_of}
use Rattle.mesh_rules.specs.Cycle.{held_by}
use Rattle.dense_mesh.specs.Meshes.{IsMeshIn, mesh_of}
use Rattle.dense_mesh.specs.Masks.{mask_of}
use Rattle.dense_mesh.specs.declared.totals.Slot.{Slot}
use Rattle.dense_cycle.proofs.Reactions.{reacted_lists}
use Rattle.dense_cycle.proofs.reaction.react_held.Goals as goal

pub keep_by_reaction-requires-clause-mesh : goal.keep_by_reaction-requires-clause-mesh
keep_by_reaction-requires-clause-mesh g c =
    let q = settings_of c.args.problem.now in
    let react = g.R.MeshReaction.reacts c.args.reaction.now in
    let laws = subst (λ k. KernelLaws k react) c.requires.fields (g.met.R.MeshReaction.laws c.args.reaction.now) in
    let new = reacted_lists q react c.args.tree.now c.args.layout.now c.args.held.lists c.into_vec.result.items c.in_ok-reacted.reacted.lists.items c.requires.held.lists laws c.into_vec.ensures c.in_ok-reacted.ensures.lists in
    subst (IsMeshIn q c.args.tree.now c.args.layout.now) (sym c.as_slice.ensures.value) new.is_mesh

pub cut_held-requires-clause-mesh : goal.cut_held-requires-clause-mesh
cut_held-requires-clause-mesh g c =
    let q = settings_of c.args.problem.now in
    let react = g.R.MeshReaction.reacts c.args.reaction.now in
    let laws = subst (λ k. KernelLaws k react) c.requires.fields (g.met.R.MeshReaction.laws c.args.reaction.now) in
    (reacted_lists q react c.args.tree.now c.args.layout.now c.args.held.lists c.into_vec.result.items c.in_ok-reacted.reacted.lists.items c.requires.held.lists laws c.into_vec.ensures c.in_ok-reacted.ensures.lists).is_mesh

pub returns-clause-held : goal.returns-clause-held
returns-clause-held g c =
    let q = settings_of c.args.problem.now in
    let n = field_count q in
    let t = c.args.tree.now in
    let k = length (leaves t) in
    let react = g.R.MeshReaction.reacts c.args.reaction.now in
    let laws = subst (λ k. KernelLaws k react) c.requires.fields (g.met.R.MeshReaction.laws c.args.reaction.now) in
    let m : Mesh = mesh_of t q.cells c.args.held.lists in
    let new = reacted_lists q react t c.args.layout.now c.args.held.lists c.into_vec.result.items c.in_ok-reacted.reacted.lists.items c.requires.held.lists laws c.into_vec.ensures c.in_ok-reacted.ensures.lists in
    let mask_is : mask_of k c.in_ok-slots.slots.items ≡ kept_by_reaction q (react_mesh react n m) (mask_of k c.args.held.slots) =
    c.in_ok-slots.ensures.mask
    ∙ ap (λ (v : List (List (List ℕ))). kept_by_reaction q (mesh_of t q.cells v) (mask_of k c.as_slice-2.result.now)) c.as_slice.ensures.value
    ∙ ap (λ (x : Mesh). kept_by_reaction q x (mask_of k c.as_slice-2.result.now)) new.mesh
    ∙ ap (λ (v : List (List Slot)). kept_by_reaction q (react_mesh react n m) (mask_of k v)) c.as_slice-2.ensures in
    c.in_ok-cut.ensures.held ∙ ap (λ (x : Mesh). held_by q (mask_of k c.in_ok-slots.slots.items) x) new.mesh ∙ ap (λ (x : Mask). held_by q x (react_mesh react n m)) mask_is

pub returns-clause-made : goal.returns-clause-made
returns-clause-made g c =
    let q = settings_of c.args.problem.now in
    let react = g.R.MeshReaction.reacts c.args.reaction.now in
    c.in_ok-reacted.ensures.made ∙ ap (λ (v : List (List (List ℕ))). table (field_count q) (made_of react (field_count q) (mesh_of c.args.tree.now q.cells v))) c.into_vec.ensures

pub returns-clause-used : goal.returns-clause-used
returns-clause-used g c =
    let q = settings_of c.args.problem.now in
    let react = g.R.MeshReaction.reacts c.args.reaction.now in
    c.in_ok-reacted.ensures.used ∙ ap (λ (v : List (List (List ℕ))). table (field_count q) (used_of react (field_count q) (mesh_of c.args.tree.now q.cells v))) c.into_vec.ensures

pub returns-clause-dropped : goal.returns-clause-dropped
returns-clause-dropped g c =
    let q = settings_of c.args.problem.now in
    let n = field_count q in
    let t = c.args.tree.now in
    let k = length (leaves t) in
    let react = g.R.MeshReaction.reacts c.args.reaction.now in
    let laws = subst (λ k. KernelLaws k react) c.requires.fields (g.met.R.MeshReaction.laws c.args.reaction.now) in
    let m : Mesh = mesh_of t q.cells c.args.held.lists in
    let new = reacted_lists q react t c.args.layout.now c.args.held.lists c.into_vec.result.items c.in_ok-reacted.reacted.lists.items c.requires.held.lists laws c.into_vec.ensures c.in_ok-reacted.ensures.lists in
    let mask_is : mask_of k c.in_ok-slots.slots.items ≡ kept_by_reaction q (react_mesh react n m) (mask_of k c.args.held.slots) =
    c.in_ok-slots.ensures.mask
    ∙ ap (λ (v : List (List (List ℕ))). kept_by_reaction q (mesh_of t q.cells v) (mask_of k c.as_slice-2.result.now)) c.as_slice.ensures.value
    ∙ ap (λ (x : Mesh). kept_by_reaction q x (mask_of k c.as_slice-2.result.now)) new.mesh
    ∙ ap (λ (v : List (List Slot)). kept_by_reaction q (react_mesh react n m) (mask_of k v)) c.as_slice-2.ensures in
    c.in_ok-cut.ensures.dropped ∙ ap (λ (x : Mesh). table n (dropped_of q (mask_of k c.in_ok-slots.slots.items) x)) new.mesh ∙ ap (λ (x : Mask). table n (dropped_of q x (react_mesh react n m))) mask_is
