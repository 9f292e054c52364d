use Rattle.std.proofs.Common.{not, length}
use Rattle.sparse_pool.specs.Idle.{idle}
use Rattle.dense_mesh.specs.Meshes.{totals_in}
use Rattle.mesh_rules.specs.Mask.{called}
use Rattle.block_tree.specs.Blocks.{leaves}
use Rattle.dense_mesh.specs.Masks.{slot_in, slot_of}
use Rattle.dense_mask.specs.SlotSteps.{AreFieldsBy}
use Rattle.dense_mask.proofs.keeping.keep_by_reaction.Given as goal

abbrev pub invariant-loop-field : goal.invariant-loop-field
invariant-loop-field l = AreFieldsBy l.field (length (leaves l.tree)) (λ f leaf. called (slot_of (slot_in l.slots f leaf)) (not (idle (totals_in l.lists f leaf) l.problem.alloc_threshold))) l.new.items
