use Rattle.std.proofs.Common.{◌<◌, ℕ, List, [], length, not, arith, ap, subst, sym, ◌∙◌}
use Rattle.std.specs.List.{slice_index_or}
use Rattle.std.proofs.lemmas.List.{get_or_read}
use Rattle.problem_set.specs.SettingsOf.{settings_of}
use Rattle.sparse_pool.specs.Idle.{idle}
use Rattle.mesh_rules.specs.Fields.{field_count}
use Rattle.mesh_rules.specs.Mask.{checked_slot, has_above}
use Rattle.dense_mesh.specs.declared.totals.Slot.{Slot}
use Rattle.dense_mesh.specs.Meshes.{mesh_of, totals_in}
use Rattle.dense_mesh.specs.Masks.{slot_in, slot_of}
use Rattle.dense_mask.specs.SlotSteps.{AreSlotsBy, slot_on}
use Rattle.dense_mask.proofs.Above.{idle_is}
use Rattle.dense_mask.proofs.Leaves.{has_row}
use Rattle.dense_mask.proofs.SlotSteps.{fields_push, kept_where_checked}
use Rattle.dense_mask.proofs.keeping.keep_by_check.Goals as goal

pub check_field-requires-clause-idle : goal.check_field-requires-clause-idle
check_field-requires-clause-idle c leaf small =
    let p = settings_of c.args.problem.now in
    let f = c.loop-field.field in
    let some : f < field_count p = omega (arith, c.requires.slots.fields, c.loop-field-test.true) in
    let old = c.as_slice-old.ensures ∙ get_or_read c.args.slots.now f c.index-slots-field.result c.loop-field-test.true c.index-slots-field.is [] in
    let inside = subst (λ (v : ℕ). leaf < v) (ap (λ (v : List Slot). length v) old ∙ c.requires.slots.leaf_slots f some) small in
    subst (λ (v : List Slot). (slot_on v leaf).idle < p.dealloc_count) (sym old) (c.requires.fresh leaf f inside some)

pub loop-field-preserved : goal.loop-field-preserved
loop-field-preserved c =
    let p = settings_of c.args.problem.now in
    let lists = c.args.lists.now in
    let f = c.loop-field.field in
    let some : f < field_count p = omega (arith, c.requires.slots.fields, c.loop-field-test.true) in
    let list = c.as_slice-list.ensures ∙ get_or_read lists f c.index-lists-field.result (omega (arith, c.requires.mesh.fields, some)) c.index-lists-field.is [] in
    let old = c.as_slice-old.ensures ∙ get_or_read c.args.slots.now f c.index-slots-field.result c.loop-field-test.true c.index-slots-field.is [] in
    let t = p.dealloc_threshold in
    fields_push f (length (mesh_of c.args.tree.now p.cells lists).leaves) (λ f leaf. checked_slot p f (idle (totals_in lists f leaf) t) (slot_of (slot_in c.args.slots.now f leaf))) c.loop-field.new.items c.push.new.self.items
    c.in_ok-check_field.field-0 c.loop-field.invariant c.in_ok-push.ensures.items
    (subst (λ (n : ℕ). AreSlotsBy n (λ leaf. checked_slot p f (idle (totals_in lists f leaf) t) (slot_of (slot_in c.args.slots.now f leaf))) c.in_ok-check_field.field-0) (c.requires.slots.leaf_slots f some)
    (subst (λ (v : List Slot). AreSlotsBy (length v) (λ leaf. checked_slot p f (idle (totals_in lists f leaf) t) (slot_of (slot_on v leaf))) c.in_ok-check_field.field-0) old
    (subst (λ (v : List (List ℕ)). AreSlotsBy (length c.as_slice-old.result.now) (λ leaf. checked_slot p f (idle (slice_index_or v leaf []) t) (slot_of (slot_on c.as_slice-old.result.now leaf))) c.in_ok-check_field.field-0) list
    c.in_ok-check_field.ensures)))

pub returns-clause-mask : goal.returns-clause-mask
returns-clause-mask c =
    let p = settings_of c.args.problem.now in
    let lists = c.args.lists.now in
    let m = mesh_of c.args.tree.now p.cells lists in
    (kept_where_checked p m.leaves c.loop-field.field (λ f leaf. idle (totals_in lists f leaf) p.dealloc_threshold) (λ f l. not (has_above p.dealloc_threshold m f l)) c.args.slots.now c.loop-field.new.items
    c.requires.slots (omega (arith, c.requires.slots.fields, c.loop-field-test.false, c.loop-field.auto.field-end)) c.loop-field.invariant
    (λ f leaf some small. idle_is p.dealloc_threshold m f leaf (totals_in lists f leaf) (has_row p c.args.tree.now c.args.layout.now lists c.requires.mesh f leaf some small))).mask

pub returns-clause-slots : goal.returns-clause-slots
returns-clause-slots c =
    let p = settings_of c.args.problem.now in
    let lists = c.args.lists.now in
    let m = mesh_of c.args.tree.now p.cells lists in
    (kept_where_checked p m.leaves c.loop-field.field (λ f leaf. idle (totals_in lists f leaf) p.dealloc_threshold) (λ f l. not (has_above p.dealloc_threshold m f l)) c.args.slots.now c.loop-field.new.items
    c.requires.slots (omega (arith, c.requires.slots.fields, c.loop-field-test.false, c.loop-field.auto.field-end)) c.loop-field.invariant
    (λ f leaf some small. idle_is p.dealloc_threshold m f leaf (totals_in lists f leaf) (has_row p c.args.tree.now c.args.layout.now lists c.requires.mesh f leaf some small))).slots
