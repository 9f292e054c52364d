use Rattle.std.proofs.Common.{◌≡◌, ◌∙◌, ℕ, List, ap, length, replicate, subst, sym}
use Rattle.block_tree.specs.Blocks.{leaves}
use Rattle.problem_set.specs.SettingsOf.{settings_of}
use Rattle.mesh_rules.specs.Mesh.{Mesh}
use Rattle.mesh_rules.specs.Fields.{field_count}
use Rattle.mesh_rules.specs.Mask.{Mask, kept_at_start}
use Rattle.mesh_rules.specs.Opening.{opening_mesh}
use Rattle.mesh_rules.specs.Cycle.{State}
use Rattle.dense_mesh.specs.declared.totals.Slot.{Slot}
use Rattle.dense_mesh.specs.Meshes.{IsMeshIn, mesh_of}
use Rattle.dense_mesh.specs.Masks.{AreSlots, mask_of}
use Rattle.dense_model.proofs.Opened.{opened_lists}
use Rattle.dense_model.proofs.opening.opening_on.Goals as goal

pub kept_at_start-requires : goal.kept_at_start-requires
kept_at_start-requires c =
    let p = c.args.problem.now in
    subst (IsMeshIn (settings_of p) c.args.tree.now c.args.layout.now) (sym c.as_slice.ensures.value)
    (opened_lists p c.args.tree.now c.args.layout.now c.in_ok-lists.lists.items c.requires.dims c.requires.cells c.in_ok-lists.ensures.mesh c.in_ok-lists.ensures.lists c.len.ensures.kept.few)

pub returns-clause-state : goal.returns-clause-state
returns-clause-state c =
    let p = c.args.problem.now in
    let q = settings_of p in
    let t = c.args.tree.now in
    let n = length (leaves t) in
    let mesh_is : mesh_of t p.cells c.from_vec.result ≡ opening_mesh q = ap (mesh_of t p.cells) c.from_vec.ensures ∙ c.in_ok-lists.ensures.mesh in
    let mask_is : mask_of n c.from_vec-2.result ≡ kept_at_start q (opening_mesh q) =
    ap (λ (v : List (List Slot)). mask_of n v) c.from_vec-2.ensures ∙ c.in_ok-slots.ensures.mask
    ∙ ap (λ (v : List (List (List ℕ))). kept_at_start q (mesh_of t p.cells v)) c.as_slice.ensures.value ∙ ap (kept_at_start q) c.in_ok-lists.ensures.mesh in
    let count : length (leaves t) ≡ length (opening_mesh q).leaves = ap (λ (m : Mesh). length m.leaves) c.in_ok-lists.ensures.mesh in
    let counters_are : c.from_vec-3.result ≡ replicate (length (opening_mesh q).leaves) 0 = c.from_vec-3.ensures ∙ c.in_ok-counters.ensures ∙ ap (λ k. replicate k 0) (c.len.ensures.count ∙ count) in
    ap (λ (m : Mesh). let x : State = record { mesh = m; mask = mask_of n c.from_vec-2.result; counters = c.from_vec-3.result } in x) mesh_is
    ∙ ap (λ (m : Mask). let x : State = record { mesh = opening_mesh q; mask = m; counters = c.from_vec-3.result } in x) mask_is
    ∙ ap (λ (v : List ℕ). let x : State = record { mesh = opening_mesh q; mask = kept_at_start q (opening_mesh q); counters = v } in x) counters_are

pub returns-clause-held : goal.returns-clause-held
returns-clause-held c =
    let p = c.args.problem.now in
    let q = settings_of p in
    record {
      lists = subst (IsMeshIn q c.args.tree.now c.args.layout.now) (sym c.from_vec.ensures)
          (opened_lists p c.args.tree.now c.args.layout.now c.in_ok-lists.lists.items c.requires.dims c.requires.cells c.in_ok-lists.ensures.mesh c.in_ok-lists.ensures.lists c.len.ensures.kept.few);
      slots = subst (AreSlots (field_count q) (length (leaves c.args.tree.now))) (sym c.from_vec-2.ensures) c.in_ok-slots.ensures.slots;
    }
