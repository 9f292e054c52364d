use Rattle.std.proofs.Common.{◌≡◌, ◌∙◌, ℕ, List, ap, length, refl}
use Rattle.block_tree.specs.Blocks.{leaves}
use Rattle.problem_set.specs.SettingsOf.{settings_of}
use Rattle.mesh_rules.specs.Mesh.{Mesh}
use Rattle.mesh_rules.specs.Fields.{field_count}
use Rattle.mesh_rules.specs.Mask.{Mask, carried_mask}
use Rattle.mesh_rules.specs.Remesh.{carried_counters, remapped}
use Rattle.mesh_rules.specs.Cycle.{State}
use Rattle.dense_mesh.specs.declared.totals.Slot.{Slot}
use Rattle.dense_mesh.specs.Meshes.{mesh_of}
use Rattle.dense_mesh.specs.Masks.{mask_of}
use Rattle.dense_model.proofs.next.carry.Goals as goal

pub returns-clause-state : goal.returns-clause-state
returns-clause-state c =
    let p = c.args.problem.now in
    let q = settings_of p in
    let n = field_count q in
    let t = c.args.tree.now in
    let next = c.args.next.now in
    let m : Mesh = mesh_of t p.cells c.args.state.now.held.lists in
    let new : Mesh = remapped m n next.inner (leaves next) in
    let mask : Mask = carried_mask q m (mask_of (length (leaves t)) c.args.state.now.held.slots) (leaves next) in
    let mesh_is : mesh_of next p.cells c.from_vec.result ≡ new =
    ap (mesh_of next p.cells) c.from_vec.ensures ∙ c.in_ok-lists.ensures.mesh
    ∙ ap (λ (v : List (List (List ℕ))). remapped (mesh_of t p.cells v) n next.inner (leaves next)) c.as_slice.ensures in
    let mask_is : mask_of (length (leaves next)) c.from_vec-2.result ≡ mask =
    ap (λ (v : List (List Slot)). mask_of (length (leaves next)) v) c.from_vec-2.ensures ∙ c.in_ok-slots.ensures.mask m refl refl
    ∙ ap (λ (v : List (List Slot)). carried_mask q m (mask_of (length (leaves t)) v) (leaves next)) c.as_slice-2.ensures in
    let counters_are : c.from_vec-3.result ≡ carried_counters m c.args.state.now.counters (leaves next) =
    c.from_vec-3.ensures ∙ c.in_ok-counters.ensures m refl ∙ ap (λ (v : List ℕ). carried_counters m v (leaves next)) c.as_slice-3.ensures in
    ap (λ (x : Mesh). let s : State = record { mesh = x; mask = mask_of (length (leaves next)) c.from_vec-2.result; counters = c.from_vec-3.result } in s) mesh_is
    ∙ ap (λ (x : Mask). let s : State = record { mesh = new; mask = x; counters = c.from_vec-3.result } in s) mask_is
    ∙ ap (λ (x : List ℕ). let s : State = record { mesh = new; mask = mask; counters = x } in s) counters_are
