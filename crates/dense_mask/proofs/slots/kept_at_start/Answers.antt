use Rattle.std.proofs.Common.{◌≡◌, ◌<◌, List, Bool, ℕ, [], not, ◌||◌, length, arith, ap, subst, sym, ◌∙◌}
use Rattle.std.specs.List.{slice_index_or}
use Rattle.std.proofs.lemmas.List.{get_or_read}
use Rattle.block_tree.specs.Blocks.{leaves}
use Rattle.problem_set.specs.SettingsOf.{settings_of}
use Rattle.sparse_pool.specs.Idle.{idle}
use Rattle.mesh_rules.specs.Fields.{field_count, is_sparse}
use Rattle.mesh_rules.specs.Mask.{absent, called, has_above}
use Rattle.dense_mesh.specs.Meshes.{mesh_of, totals_in}
use Rattle.dense_mask.specs.SlotSteps.{AreSlotsBy}
use Rattle.dense_mask.proofs.Above.{above_is}
use Rattle.dense_mask.proofs.Leaves.{has_row}
use Rattle.dense_mask.proofs.SlotSteps.{fields_push, kept_by}
use Rattle.dense_mask.proofs.slots.kept_at_start.Goals as goal

pub loop-field-preserved : goal.loop-field-preserved
loop-field-preserved c =
    let p = settings_of c.args.problem.now in
    let lists = c.args.lists.now in
    let f = c.loop-field.field in
    let some : f < field_count p = omega (arith, c.loop-field-test.true, c.requires.fields) in
    let read = c.as_slice-list.ensures ∙ get_or_read lists f c.index-lists-field.result c.loop-field-test.true c.index-lists-field.is [] in
    let here = subst (λ (n : ℕ). AreSlotsBy n (λ leaf. called absent (not (is_sparse p f) || not (idle (totals_in lists f leaf) 0))) c.in_ok-first_slots.field-0) (c.requires.leaf_lists f some)
    (subst (λ (v : List (List ℕ)). AreSlotsBy (length v) (λ leaf. called absent (not (is_sparse p f) || not (idle (slice_index_or v leaf []) 0))) c.in_ok-first_slots.field-0) read c.in_ok-first_slots.ensures) in
    fields_push f (length (leaves c.args.tree.now)) (λ f leaf. called absent (not (is_sparse p f) || not (idle (totals_in lists f leaf) 0))) c.loop-field.slots.items c.push.new.self.items c.in_ok-first_slots.field-0
    c.loop-field.invariant c.in_ok-push.ensures.items here

pub returns-clause-mask : goal.returns-clause-mask
returns-clause-mask c =
    let p = settings_of c.args.problem.now in
    let lists = c.args.lists.now in
    let m = mesh_of c.args.tree.now p.cells lists in
    let many : c.loop-field.field ≡ field_count p = omega (arith, c.loop-field-test.false, c.loop-field.auto.field-end, c.requires.fields) in
    (kept_by m.leaves (field_count p) c.loop-field.field (λ _ l f. called absent (not (is_sparse p f) || has_above 0 m f l)) (λ f leaf. called absent (not (is_sparse p f) || not (idle (totals_in lists f leaf) 0))) c.loop-field.slots.items many
    c.loop-field.invariant
    (λ leaf f small some. ap (λ (b : Bool). called absent (not (is_sparse p f) || b)) (sym (above_is 0 m f leaf (totals_in lists f leaf) (has_row p c.args.tree.now c.args.layout.now lists c.requires f leaf some small))))).mask
