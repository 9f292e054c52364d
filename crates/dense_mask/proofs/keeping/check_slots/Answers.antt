use Rattle.std.proofs.Common.{List, ℕ, [], arith, ap, ◌∙◌}
use Rattle.std.specs.List.{slice_index_or}
use Rattle.std.proofs.lemmas.List.{get_or_read}
use Rattle.sparse_pool.specs.Idle.{idle}
use Rattle.dense_mesh.specs.Masks.{slot_of}
use Rattle.dense_mask.specs.SlotSteps.{checked_by, slot_on}
use Rattle.dense_mask.proofs.SlotSteps.{slots_push}
use Rattle.dense_mask.proofs.keeping.check_slots.Goals as goal

pub loop-leaf-preserved : goal.loop-leaf-preserved
loop-leaf-preserved c =
    let list = c.args.list.now in
    let slots = c.args.slots.now in
    let leaf = c.loop-leaf.leaf in
    let read = c.as_slice.ensures ∙ get_or_read list leaf c.index-list-leaf.result (omega (arith, c.loop-leaf-test.true, c.requires.leaves)) c.index-list-leaf.is [] in
    slots_push leaf (λ leaf. checked_by c.args.limit (idle (slice_index_or list leaf []) c.args.threshold) (slot_of (slot_on slots leaf))) c.loop-leaf.new.items c.push.new.self.items c.check_slot.result c.loop-leaf.invariant
    c.in_ok-push.ensures.items (c.check_slot.ensures ∙ ap (λ (v : List ℕ). checked_by c.args.limit (idle v c.args.threshold) (slot_of (slot_on slots leaf))) read)
