use Rattle.std.proofs.Common.{false, [], length}
use Rattle.std.specs.List.{slice_index_or}
use Rattle.mesh_rules.specs.Mask.{called}
use Rattle.block_tree.specs.Blocks.{leaves}
use Rattle.dense_mesh.specs.Masks.{slot_in, slot_of}
use Rattle.dense_mask.specs.SlotSteps.{AreFieldsBy}
use Rattle.dense_mask.proofs.keeping.keep_by_exchange.Given as goal

abbrev pub invariant-loop-field : goal.invariant-loop-field
invariant-loop-field l = AreFieldsBy l.field (length (leaves l.tree)) (λ f leaf. called (slot_of (slot_in l.slots f leaf)) (slice_index_or (slice_index_or l.calls f []) leaf false)) l.new.items
