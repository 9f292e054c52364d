use Rattle.std.proofs.Common.{◌∙◌, ℕ, List, ap, length, subst, sym, arith, cond}
use Rattle.morton_order.specs.declared.space.Loc.{Loc}
use Rattle.block_tree.specs.Blocks.{leaves}
use Rattle.problem_set.specs.Settings.{Settings}
use Rattle.problem_set.specs.SettingsOf.{settings_of}
use Rattle.mesh_rules.specs.Sums.{table}
use Rattle.mesh_rules.specs.Mesh.{Mesh, block_of, stored}
use Rattle.mesh_rules.specs.Fields.{field_count}
use Rattle.mesh_rules.specs.Mask.{Mask, cut, dropped_of, stays}
use Rattle.mesh_rules.specs.Cycle.{Held}
use Rattle.dense_mesh.specs.Meshes.{field_lists, mesh_of}
use Rattle.dense_mesh.specs.Masks.{AreSlots, mask_of}
use Rattle.dense_mesh.specs.declared.totals.Slot.{Slot}
use Rattle.dense_cycle.proofs.Bounds.{cut_le}
use Rattle.dense_cycle.proofs.Lists.{Filled, filled_in}
use Rattle.dense_cycle.proofs.staging.cut_held.Goals as goal

-- what is cut by a mask
abbrev each : Settings → Mask → Mesh → ℕ → Loc → ℕ
each q mask m f at = cond (stays q m mask f (block_of m at)) (stored m f at) 0

filled : (c : goal.After-from_vec-2) → Filled (settings_of c.args.problem.now) c.args.tree.now c.args.layout.now c.args.lists.items c.from_vec.result (each (settings_of c.args.problem.now) (mask_of (length (leaves c.args.tree.now)) c.args.slots.items) (mesh_of c.args.tree.now c.args.problem.now.cells c.args.lists.items))
filled c =
    let q = settings_of c.args.problem.now in
    let t = c.args.tree.now in
    let m : Mesh = mesh_of t q.cells c.args.lists.items in
    filled_in q t c.args.layout.now c.args.lists.items c.from_vec.result (each q (mask_of (length (leaves t)) c.args.slots.items) m) c.requires.mesh
    (c.from_vec.ensures ∙ c.in_ok-cut.ensures.lists ∙ ap (λ (v : List (List Slot)). field_lists m (field_count q) (each q (mask_of (length (leaves t)) v) m)) c.as_slice.ensures.value)

pub returns-clause-held : goal.returns-clause-held
returns-clause-held c =
    let mask : List (List Slot) → Mask = λ v. mask_of (length (leaves c.args.tree.now)) v in
    ap (λ (x : Mesh). let h : Held = record { mesh = x; mask = mask c.from_vec-2.result } in h) (filled c).mesh
    ∙ ap (λ (v : List (List Slot)). let h : Held = record { mesh = filled_mesh c; mask = mask v } in h) c.from_vec-2.ensures
  where
    filled_mesh : goal.After-from_vec-2 → Mesh
    filled_mesh c = let q = settings_of c.args.problem.now in let m : Mesh = mesh_of c.args.tree.now q.cells c.args.lists.items in cut q (mask_of (length (leaves c.args.tree.now)) c.args.slots.items) m

pub returns-clause-kept : goal.returns-clause-kept
returns-clause-kept c =
    let q = settings_of c.args.problem.now in
    let m : Mesh = mesh_of c.args.tree.now q.cells c.args.lists.items in
    record {
      lists = (filled c).fits (omega (arith, cut_le q (mask_of (length (leaves c.args.tree.now)) c.args.slots.items) m c.requires.mesh.mesh.mesh, c.requires.mesh.bound));
      slots = subst (AreSlots (field_count q) (length (leaves c.args.tree.now))) (sym c.from_vec-2.ensures) c.requires.slots;
    }

pub returns-clause-dropped : goal.returns-clause-dropped
returns-clause-dropped c =
    let q = settings_of c.args.problem.now in
    let m : Mesh = mesh_of c.args.tree.now q.cells c.args.lists.items in
    c.in_ok-cut.ensures.dropped ∙ ap (λ (v : List (List Slot)). table (field_count q) (dropped_of q (mask_of (length (leaves c.args.tree.now)) v) m)) c.as_slice.ensures.value
