use Rattle.std.proofs.Common.{length}
use Rattle.problem_set.specs.SettingsOf.{settings_of}
use Rattle.sparse_pool.specs.Idle.{idle}
use Rattle.mesh_rules.specs.Mask.{checked_slot}
use Rattle.dense_mesh.specs.Meshes.{totals_in}
use Rattle.block_tree.specs.Blocks.{leaves}
use Rattle.dense_mesh.specs.Masks.{slot_in, slot_of}
use Rattle.dense_mask.specs.SlotSteps.{AreFieldsBy}
use Rattle.dense_mask.proofs.keeping.keep_by_check.Given as goal

abbrev pub invariant-loop-field : goal.invariant-loop-field
invariant-loop-field l = AreFieldsBy l.field (length (leaves l.tree)) (λ f leaf. checked_slot (settings_of l.problem) f (idle (totals_in l.lists f leaf) l.problem.dealloc_threshold) (slot_of (slot_in l.slots f leaf))) l.new.items
