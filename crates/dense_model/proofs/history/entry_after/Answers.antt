use Rattle.std.proofs.Common.{◌≡◌, ◌∙◌, ℕ, List, ap, arith, length, refl, subst, sym}
use Rattle.block_tree.specs.Blocks.{leaves}
use Rattle.problem_set.specs.SettingsOf.{settings_of}
use Rattle.mesh_rules.specs.Fields.{field_count}
use Rattle.mesh_rules.specs.Mask.{blocks_with}
use Rattle.mesh_rules.specs.Mesh.{total_of}
use Rattle.dense_mesh.specs.Meshes.{mesh_of}
use Rattle.dense_mesh.specs.declared.totals.Slot.{Slot}
use Rattle.dense_mesh.specs.Masks.{AreSlots, mask_of}
use Rattle.dense_model.proofs.Blocks.{few_blocks}
use Rattle.dense_model.proofs.Entries.{same_entry}
use Rattle.dense_model.proofs.history.entry_after.Goals as goal
use Rattle.dense_model.proofs.history.entry_after.Goals.{After-blocks_with}

blocks_are : (c : After-blocks_with) → c.blocks_with.result ≡ blocks_with (mask_of (length (leaves c.args.tree.now)) c.args.state.now.held.slots) c.args.field
blocks_are c =
    let n = length (leaves c.args.tree.now) in
    c.blocks_with.ensures (field_count (settings_of c.args.problem.now)) n (subst (AreSlots (field_count (settings_of c.args.problem.now)) n) (sym c.as_slice-2.ensures) c.requires.held.slots)
    ∙ ap (λ (v : List (List Slot)). blocks_with (mask_of n v) c.args.field) c.as_slice-2.ensures

pub overflow_cast-result-3 : goal.overflow_cast-result-3
overflow_cast-result-3 c =
    let few = few_blocks (length (leaves c.args.tree.now)) c.args.state.now.held.slots c.args.field in
    omega (arith, blocks_are c, few, c.requires.held.lists.mesh.few)

pub returns : goal.returns
returns c =
    same_entry _ _ (c.field_total.ensures.total ∙ ap (λ (v : List (List (List ℕ))). total_of (mesh_of c.args.tree.now c.args.problem.now.cells v) c.args.field) c.as_slice.ensures) refl refl (blocks_are c)
