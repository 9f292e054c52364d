use Rattle.std.proofs.Common.{◌<◌, ℕ, [], List, length, not, arith, subst, sym, ◌∙◌}
use Rattle.std.specs.List.{slice_index_or}
use Rattle.std.proofs.lemmas.List.{get_or_read}
use Rattle.problem_set.specs.SettingsOf.{settings_of}
use Rattle.sparse_pool.specs.Idle.{idle}
use Rattle.mesh_rules.specs.Fields.{field_count}
use Rattle.mesh_rules.specs.Mask.{called, has_above}
use Rattle.dense_mesh.specs.declared.totals.Slot.{Slot}
use Rattle.dense_mesh.specs.Meshes.{mesh_of, totals_in}
use Rattle.dense_mesh.specs.Masks.{slot_in, slot_of}
use Rattle.dense_mask.specs.SlotSteps.{AreSlotsBy, slot_on}
use Rattle.dense_mask.proofs.Above.{above_is}
use Rattle.dense_mask.proofs.Leaves.{has_row}
use Rattle.dense_mask.proofs.SlotSteps.{fields_push, kept_where_called}
use Rattle.dense_mask.proofs.keeping.keep_by_reaction.Goals as goal

pub loop-field-preserved : goal.loop-field-preserved
loop-field-preserved c =
    let p = settings_of c.args.problem.now in
    let lists = c.args.lists.now in
    let f = c.loop-field.field in
    let some : f < field_count p = omega (arith, c.requires.slots.fields, c.loop-field-test.true) in
    let list = c.as_slice-list.ensures ∙ get_or_read lists f c.index-lists-field.result (omega (arith, c.requires.mesh.fields, some)) c.index-lists-field.is [] in
    let old = c.as_slice-old.ensures ∙ get_or_read c.args.slots.now f c.index-slots-field.result c.loop-field-test.true c.index-slots-field.is [] in
    let t = p.alloc_threshold in
    fields_push f (length (mesh_of c.args.tree.now p.cells lists).leaves) (λ f leaf. called (slot_of (slot_in c.args.slots.now f leaf)) (not (idle (totals_in lists f leaf) t))) c.loop-field.new.items c.push.new.self.items
    c.in_ok-keep_above_slots.field-0 c.loop-field.invariant c.in_ok-push.ensures.items
    (subst (λ (n : ℕ). AreSlotsBy n (λ leaf. called (slot_of (slot_in c.args.slots.now f leaf)) (not (idle (totals_in lists f leaf) t))) c.in_ok-keep_above_slots.field-0) (c.requires.slots.leaf_slots f some)
    (subst (λ (v : List Slot). AreSlotsBy (length v) (λ leaf. called (slot_of (slot_on v leaf)) (not (idle (totals_in lists f leaf) t))) c.in_ok-keep_above_slots.field-0) old
    (subst (λ (v : List (List ℕ)). AreSlotsBy (length c.as_slice-old.result.now) (λ leaf. called (slot_of (slot_on c.as_slice-old.result.now leaf)) (not (idle (slice_index_or v leaf []) t))) c.in_ok-keep_above_slots.field-0) list
    c.in_ok-keep_above_slots.ensures)))

pub returns-clause-mask : goal.returns-clause-mask
returns-clause-mask c =
    let p = settings_of c.args.problem.now in
    let lists = c.args.lists.now in
    let m = mesh_of c.args.tree.now p.cells lists in
    (kept_where_called m.leaves (field_count p) c.loop-field.field (λ f leaf. not (idle (totals_in lists f leaf) p.alloc_threshold)) (has_above p.alloc_threshold m) c.args.slots.now c.loop-field.new.items
    c.requires.slots (omega (arith, c.requires.slots.fields, c.loop-field-test.false, c.loop-field.auto.field-end)) c.loop-field.invariant
    (λ f leaf some small. sym (above_is p.alloc_threshold m f leaf (totals_in lists f leaf) (has_row p c.args.tree.now c.args.layout.now lists c.requires.mesh f leaf some small)))).mask

pub returns-clause-slots : goal.returns-clause-slots
returns-clause-slots c =
    let p = settings_of c.args.problem.now in
    let lists = c.args.lists.now in
    let m = mesh_of c.args.tree.now p.cells lists in
    (kept_where_called m.leaves (field_count p) c.loop-field.field (λ f leaf. not (idle (totals_in lists f leaf) p.alloc_threshold)) (has_above p.alloc_threshold m) c.args.slots.now c.loop-field.new.items
    c.requires.slots (omega (arith, c.requires.slots.fields, c.loop-field-test.false, c.loop-field.auto.field-end)) c.loop-field.invariant
    (λ f leaf some small. sym (above_is p.alloc_threshold m f leaf (totals_in lists f leaf) (has_row p c.args.tree.now c.args.layout.now lists c.requires.mesh f leaf some small)))).slots
