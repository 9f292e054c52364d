use Rattle.std.proofs.Common.{List, ℕ, [], not, ◌||◌, ap, ◌∙◌}
use Rattle.std.specs.List.{slice_index_or}
use Rattle.std.proofs.lemmas.List.{get_or_read}
use Rattle.problem_set.specs.SettingsOf.{settings_of}
use Rattle.sparse_pool.specs.Idle.{idle}
use Rattle.mesh_rules.specs.Fields.{is_sparse}
use Rattle.mesh_rules.specs.Mask.{absent, called}
use Rattle.dense_mask.proofs.SlotSteps.{slots_push}
use Rattle.dense_mask.proofs.slots.first_slots.Goals as goal

pub loop-cells-preserved : goal.loop-cells-preserved
loop-cells-preserved c =
    let sparse = is_sparse (settings_of c.args.problem.now) c.args.field in
    let list = c.args.list.now in
    let read = c.as_slice.ensures ∙ get_or_read list c.loop-cells.cells-index c.cells-item.result c.loop-cells-test.true c.cells-item.is [] in
    slots_push c.loop-cells.cells-index (λ leaf. called absent (not sparse || not (idle (slice_index_or list leaf []) 0))) c.loop-cells.slots.items c.push.new.self.items c.first_slot.result c.loop-cells.invariant c.in_ok-push.ensures.items
    (c.first_slot.ensures ∙ ap (λ (v : List ℕ). called absent (not sparse || not (idle v 0))) read)
