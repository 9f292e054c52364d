use Rattle.std.proofs.Common.{◌≡◌, ◌∙◌, ℕ, ◌<◌, List, IfOk, ap, length, subst, sym, arith}
use Rattle.block_tree.specs.Blocks.{leaves}
use Rattle.problem_set.specs.SettingsOf.{settings_of}
use Rattle.mesh_rules.specs.Sums.{table}
use Rattle.mesh_rules.specs.Fields.{field_count}
use Rattle.mesh_rules.specs.Mask as mask
use Rattle.mesh_rules.specs.Mask.{Mask, dropped_of, kept_by_check}
use Rattle.mesh_rules.specs.Cycle.{Held, held_by}
use Rattle.dense_mesh.specs.Meshes.{mesh_of}
use Rattle.dense_mesh.specs.Masks.{mask_of, slot_in}
use Rattle.dense_mesh.specs.declared.totals.Slot.{Slot}
use Rattle.dense_cycle.specs.Held.{held_of}
use Rattle.dense_cycle.proofs.Slots.{slot_of_lists}
use Rattle.dense_cycle.proofs.check.check_held.Goals as goal

pub keep_by_check-requires-clause-fresh : goal.keep_by_check-requires-clause-fresh
keep_by_check-requires-clause-fresh c leaf f inside within =
    let n = length (leaves c.args.tree.now) in
    let slots = c.args.held.slots in
    let is = slot_of_lists n slots leaf f inside (omega (arith, within, c.requires.held.slots.fields)) in
    let idle = (c.requires.fits.slots leaf f inside within).idle in
    subst (λ (v : List (List Slot)). (slot_in v f leaf).idle < c.args.problem.now.dealloc_count) (sym c.as_slice-2.ensures)
    (subst (λ (s : mask.Slot). s.idle < c.args.problem.now.dealloc_count) is idle)

mask_is : (c : goal.After-drop-held-2) → mask_of (length (leaves c.args.tree.now)) c.in_ok-slots.slots.items ≡ kept_by_check (settings_of c.args.problem.now) (mesh_of c.args.tree.now c.args.problem.now.cells c.args.held.lists) (mask_of (length (leaves c.args.tree.now)) c.args.held.slots)
mask_is c =
    let q = settings_of c.args.problem.now in
    let n = length (leaves c.args.tree.now) in
    c.in_ok-slots.ensures.mask
    ∙ ap (λ (v : List (List (List ℕ))). kept_by_check q (mesh_of c.args.tree.now q.cells v) (mask_of n c.as_slice-2.result.now)) c.as_slice.ensures
    ∙ ap (λ (v : List (List Slot)). kept_by_check q (mesh_of c.args.tree.now q.cells c.args.held.lists) (mask_of n v)) c.as_slice-2.ensures

pub returns-clause-held : goal.returns-clause-held
returns-clause-held c =
    let q = settings_of c.args.problem.now in
    let t = c.args.tree.now in
    subst (λ (h : Held). IfOk c.cut_held.result (λ r. held_of t q.cells r.held ≡ h))
    (ap (λ (v : List (List (List ℕ))). held_by q (mask_of (length (leaves t)) c.in_ok-slots.slots.items) (mesh_of t q.cells v)) c.into_vec.ensures
    ∙ ap (λ (k : Mask). held_by q k (mesh_of t q.cells c.args.held.lists)) (mask_is c))
    c.cut_held.ensures.held

pub returns-clause-dropped : goal.returns-clause-dropped
returns-clause-dropped c =
    let q = settings_of c.args.problem.now in
    let t = c.args.tree.now in
    subst (λ (each : ℕ → ℕ). IfOk c.cut_held.result (λ r. r.dropped.items ≡ table (field_count q) each))
    (ap (λ (v : List (List (List ℕ))). dropped_of q (mask_of (length (leaves t)) c.in_ok-slots.slots.items) (mesh_of t q.cells v)) c.into_vec.ensures
    ∙ ap (λ (k : Mask). dropped_of q k (mesh_of t q.cells c.args.held.lists)) (mask_is c))
    c.cut_held.ensures.dropped
