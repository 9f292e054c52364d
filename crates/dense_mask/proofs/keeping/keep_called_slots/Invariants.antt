use Rattle.std.proofs.Common.{false}
use Rattle.std.specs.List.{slice_index_or}
use Rattle.mesh_rules.specs.Mask.{called}
use Rattle.dense_mesh.specs.Masks.{slot_of}
use Rattle.dense_mask.specs.SlotSteps.{AreSlotsBy, slot_on}
use Rattle.dense_mask.proofs.keeping.keep_called_slots.Given as goal

abbrev pub invariant-loop-leaf : goal.invariant-loop-leaf
invariant-loop-leaf l = AreSlotsBy l.leaf (λ leaf. called (slot_of (slot_on l.slots leaf)) (slice_index_or l.calls leaf false)) l.new.items
