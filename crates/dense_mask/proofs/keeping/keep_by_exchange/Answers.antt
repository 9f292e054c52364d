use Rattle.std.proofs.Common.{◌<◌, ℕ, false, arith, [], List, Bool, length, ap, subst, sym, ◌∙◌}
use Rattle.std.specs.List.{slice_index_or}
use Rattle.std.proofs.lemmas.List.{get_or_read}
use Rattle.problem_set.specs.SettingsOf.{settings_of}
use Rattle.mesh_rules.specs.Fields.{field_count}
use Rattle.mesh_rules.specs.Mask.{called, exchange_calls}
use Rattle.dense_mesh.specs.declared.totals.Slot.{Slot}
use Rattle.dense_mesh.specs.Meshes.{mesh_of}
use Rattle.dense_mesh.specs.Masks.{slot_in, slot_of}
use Rattle.dense_mask.specs.SlotSteps.{AreSlotsBy, slot_on}
use Rattle.dense_mask.proofs.Calls.{are_calls}
use Rattle.dense_mask.proofs.SlotSteps.{fields_push, kept_where_called}
use Rattle.dense_mask.proofs.keeping.keep_by_exchange.Goals as goal

pub bounds-calls-field : goal.bounds-calls-field
bounds-calls-field c =
    let p = settings_of c.args.problem.now in
    let m = mesh_of c.args.tree.now p.cells c.args.lists.now in
    let calls = are_calls (field_count p) m.leaves (exchange_calls p m) c.args.calls.now c.requires.calls in
    omega (arith, calls.many, c.requires.slots.fields, c.loop-field-test.true)

pub keep_called_slots-requires : goal.keep_called_slots-requires
keep_called_slots-requires c =
    let p = settings_of c.args.problem.now in
    let m = mesh_of c.args.tree.now p.cells c.args.lists.now in
    let f = c.loop-field.field in
    let are = are_calls (field_count p) m.leaves (exchange_calls p m) c.args.calls.now c.requires.calls in
    let some : f < field_count p = omega (arith, c.requires.slots.fields, c.loop-field-test.true) in
    let calls = c.as_slice.ensures ∙ get_or_read c.args.calls.now f c.index-calls-field.result (omega (arith, are.many, some)) c.index-calls-field.is [] in
    let old = c.as_slice-old.ensures ∙ get_or_read c.args.slots.now f c.index-slots-field.result c.loop-field-test.true c.index-slots-field.is [] in
    ap (λ (v : List Bool). length v) calls ∙ are.long f some ∙ sym (ap (λ (v : List Slot). length v) old ∙ c.requires.slots.leaf_slots f some)

pub loop-field-preserved : goal.loop-field-preserved
loop-field-preserved c =
    let p = settings_of c.args.problem.now in
    let m = mesh_of c.args.tree.now p.cells c.args.lists.now in
    let f = c.loop-field.field in
    let are = are_calls (field_count p) m.leaves (exchange_calls p m) c.args.calls.now c.requires.calls in
    let some : f < field_count p = omega (arith, c.requires.slots.fields, c.loop-field-test.true) in
    let calls = c.as_slice.ensures ∙ get_or_read c.args.calls.now f c.index-calls-field.result (omega (arith, are.many, some)) c.index-calls-field.is [] in
    let old = c.as_slice-old.ensures ∙ get_or_read c.args.slots.now f c.index-slots-field.result c.loop-field-test.true c.index-slots-field.is [] in
    fields_push f (length m.leaves) (λ f leaf. called (slot_of (slot_in c.args.slots.now f leaf)) (slice_index_or (slice_index_or c.args.calls.now f []) leaf false)) c.loop-field.new.items c.push.new.self.items
    c.in_ok-keep_called_slots.field-0 c.loop-field.invariant c.in_ok-push.ensures.items
    (subst (λ (n : ℕ). AreSlotsBy n (λ leaf. called (slot_of (slot_in c.args.slots.now f leaf)) (slice_index_or (slice_index_or c.args.calls.now f []) leaf false)) c.in_ok-keep_called_slots.field-0) (c.requires.slots.leaf_slots f some)
    (subst (λ (v : List Slot). AreSlotsBy (length v) (λ leaf. called (slot_of (slot_on v leaf)) (slice_index_or (slice_index_or c.args.calls.now f []) leaf false)) c.in_ok-keep_called_slots.field-0) old
    (subst (λ (v : List Bool). AreSlotsBy (length c.as_slice-old.result.now) (λ leaf. called (slot_of (slot_on c.as_slice-old.result.now leaf)) (slice_index_or v leaf false)) c.in_ok-keep_called_slots.field-0) calls
    c.in_ok-keep_called_slots.ensures)))

pub returns-clause-mask : goal.returns-clause-mask
returns-clause-mask c =
    let p = settings_of c.args.problem.now in
    let m = mesh_of c.args.tree.now p.cells c.args.lists.now in
    let calls = c.args.calls.now in
    let are = are_calls (field_count p) m.leaves (exchange_calls p m) calls c.requires.calls in
    (kept_where_called m.leaves (field_count p) c.loop-field.field (λ f leaf. slice_index_or (slice_index_or calls f []) leaf false) (exchange_calls p m) c.args.slots.now c.loop-field.new.items
    c.requires.slots (omega (arith, c.requires.slots.fields, c.loop-field-test.false, c.loop-field.auto.field-end)) c.loop-field.invariant are.calls_at).mask

pub returns-clause-slots : goal.returns-clause-slots
returns-clause-slots c =
    let p = settings_of c.args.problem.now in
    let m = mesh_of c.args.tree.now p.cells c.args.lists.now in
    let calls = c.args.calls.now in
    let are = are_calls (field_count p) m.leaves (exchange_calls p m) calls c.requires.calls in
    (kept_where_called m.leaves (field_count p) c.loop-field.field (λ f leaf. slice_index_or (slice_index_or calls f []) leaf false) (exchange_calls p m) c.args.slots.now c.loop-field.new.items
    c.requires.slots (omega (arith, c.requires.slots.fields, c.loop-field-test.false, c.loop-field.auto.field-end)) c.loop-field.invariant are.calls_at).slots
