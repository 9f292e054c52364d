use Rattle.std.proofs.Common.{List, ℕ, [], not, arith, ap, ◌∙◌}
use Rattle.std.specs.List.{slice_index_or}
use Rattle.std.proofs.lemmas.List.{get_or_read}
use Rattle.sparse_pool.specs.Idle.{idle}
use Rattle.mesh_rules.specs.Mask.{called}
use Rattle.dense_mesh.specs.Masks.{slot_of}
use Rattle.dense_mask.specs.SlotSteps.{slot_on}
use Rattle.dense_mask.proofs.SlotSteps.{slots_push}
use Rattle.dense_mask.proofs.keeping.keep_above_slots.Goals as goal

pub loop-leaf-preserved : goal.loop-leaf-preserved
loop-leaf-preserved c =
    let list = c.args.list.now in
    let slots = c.args.slots.now in
    let leaf = c.loop-leaf.leaf in
    let read = c.as_slice.ensures ∙ get_or_read list leaf c.index-list-leaf.result (omega (arith, c.loop-leaf-test.true, c.requires)) c.index-list-leaf.is [] in
    slots_push leaf (λ leaf. called (slot_of (slot_on slots leaf)) (not (idle (slice_index_or list leaf []) c.args.threshold))) c.loop-leaf.new.items c.push.new.self.items c.keep_above.result c.loop-leaf.invariant
    c.in_ok-push.ensures.items (c.keep_above.ensures ∙ ap (λ (v : List ℕ). called (slot_of (slot_on slots leaf)) (not (idle v c.args.threshold))) read)
