use Rattle.std.proofs.Common.{◌≡◌, ◌∙◌, ℕ, List, ap, length}
use Rattle.block_tree.specs.Blocks.{leaves}
use Rattle.problem_set.specs.SettingsOf.{settings_of}
use Rattle.mesh_rules.specs.Sums.{table}
use Rattle.mesh_rules.specs.Mesh.{Mesh}
use Rattle.mesh_rules.specs.Fields.{field_count}
use Rattle.mesh_rules.specs.Mask.{Mask, dropped_of, kept_by_exchange}
use Rattle.mesh_rules.specs.Stage as rules
use Rattle.mesh_rules.specs.Cycle.{held_by}
use Rattle.dense_mesh.specs.Meshes.{mesh_of}
use Rattle.dense_mesh.specs.Masks.{mask_of}
use Rattle.dense_mesh.specs.declared.totals.Slot.{Slot}
use Rattle.dense_cycle.specs.Fields.{passed_of}
use Rattle.dense_cycle.proofs.StagedLists.{staged_lists}
use Rattle.dense_cycle.proofs.staging.stage.Goals as goal

pub cut_held-requires-clause-mesh : goal.cut_held-requires-clause-mesh
cut_held-requires-clause-mesh c =
    (staged_lists (settings_of c.args.problem.now) c.args.tree.now c.args.layout.now c.args.held.now.lists c.as_slice-lists.result.now c.in_ok-staged.staged.lists.items c.requires.mesh c.as_slice-lists.ensures c.in_ok-staged.ensures.fields.lists).is_mesh

pub returns-clause-held : goal.returns-clause-held
returns-clause-held c =
    let q = settings_of c.args.problem.now in
    let t = c.args.tree.now in
    let k = length (leaves t) in
    let m : Mesh = mesh_of t q.cells c.args.held.now.lists in
    let new = staged_lists q t c.args.layout.now c.args.held.now.lists c.as_slice-lists.result.now c.in_ok-staged.staged.lists.items c.requires.mesh c.as_slice-lists.ensures c.in_ok-staged.ensures.fields.lists in
    let mask_is : mask_of k c.in_ok-slots.slots.items ≡ kept_by_exchange q m (mask_of k c.args.held.now.slots) =
    c.in_ok-slots.ensures.mask
    ∙ ap (λ (v : List (List (List ℕ))). kept_by_exchange q (mesh_of t q.cells v) (mask_of k c.as_slice.result.now)) c.as_slice-lists.ensures
    ∙ ap (λ (v : List (List Slot)). kept_by_exchange q m (mask_of k v)) c.as_slice.ensures in
    c.in_ok-cut.ensures.held ∙ ap (λ (x : Mesh). held_by q (mask_of k c.in_ok-slots.slots.items) x) new.mesh ∙ ap (λ (x : Mask). held_by q x (rules.stage q m)) mask_is

pub returns-clause-passed : goal.returns-clause-passed
returns-clause-passed c =
    let q = settings_of c.args.problem.now in
    c.in_ok-staged.ensures.fields.passed ∙ ap (λ (v : List (List (List ℕ))). table (field_count q) (passed_of q (mesh_of c.args.tree.now q.cells v))) c.as_slice-lists.ensures

pub returns-clause-dropped : goal.returns-clause-dropped
returns-clause-dropped c =
    let q = settings_of c.args.problem.now in
    let t = c.args.tree.now in
    let k = length (leaves t) in
    let m : Mesh = mesh_of t q.cells c.args.held.now.lists in
    let new = staged_lists q t c.args.layout.now c.args.held.now.lists c.as_slice-lists.result.now c.in_ok-staged.staged.lists.items c.requires.mesh c.as_slice-lists.ensures c.in_ok-staged.ensures.fields.lists in
    let mask_is : mask_of k c.in_ok-slots.slots.items ≡ kept_by_exchange q m (mask_of k c.args.held.now.slots) =
    c.in_ok-slots.ensures.mask
    ∙ ap (λ (v : List (List (List ℕ))). kept_by_exchange q (mesh_of t q.cells v) (mask_of k c.as_slice.result.now)) c.as_slice-lists.ensures
    ∙ ap (λ (v : List (List Slot)). kept_by_exchange q m (mask_of k v)) c.as_slice.ensures in
    c.in_ok-cut.ensures.dropped ∙ ap (λ (x : Mesh). table (field_count q) (dropped_of q (mask_of k c.in_ok-slots.slots.items) x)) new.mesh ∙ ap (λ (x : Mask). table (field_count q) (dropped_of q x (rules.stage q m))) mask_is
