use Rattle.std.proofs.Common.{[]}
use Rattle.std.specs.List.{slice_index_or}
use Rattle.sparse_pool.specs.Idle.{idle}
use Rattle.dense_mask.specs.SlotSteps.{checked_by}
use Rattle.dense_mesh.specs.Masks.{slot_of}
use Rattle.dense_mask.specs.SlotSteps.{AreSlotsBy, slot_on}
use Rattle.dense_mask.proofs.keeping.check_slots.Given as goal

abbrev pub invariant-loop-leaf : goal.invariant-loop-leaf
invariant-loop-leaf l = AreSlotsBy l.leaf (λ leaf. checked_by l.limit (idle (slice_index_or l.list leaf []) l.threshold) (slot_of (slot_on l.slots leaf))) l.new.items
