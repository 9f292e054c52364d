use Rattle.std.proofs.Common.{false}
use Rattle.std.specs.List.{slice_index_or}
use Rattle.mesh_rules.specs.Mask.{called}
use Rattle.dense_mesh.specs.Masks.{slot_of}
use Rattle.dense_mask.specs.SlotSteps.{slot_on}
use Rattle.dense_mask.proofs.SlotSteps.{slots_push}
use Rattle.dense_mask.proofs.keeping.keep_called_slots.Goals as goal

pub loop-leaf-preserved : goal.loop-leaf-preserved
loop-leaf-preserved c =
    slots_push c.loop-leaf.leaf (λ leaf. called (slot_of (slot_on c.args.slots.now leaf)) (slice_index_or c.args.calls.now leaf false)) c.loop-leaf.new.items c.push.new.self.items c.keep_called.result c.loop-leaf.invariant
    c.in_ok-push.ensures.items c.keep_called.ensures
