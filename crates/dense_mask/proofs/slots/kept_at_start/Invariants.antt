use Rattle.std.proofs.Common.{not, ◌||◌, length}
use Rattle.block_tree.specs.Blocks.{leaves}
use Rattle.problem_set.specs.SettingsOf.{settings_of}
use Rattle.sparse_pool.specs.Idle.{idle}
use Rattle.mesh_rules.specs.Fields.{is_sparse}
use Rattle.mesh_rules.specs.Mask.{absent, called}
use Rattle.dense_mesh.specs.Meshes.{totals_in}
use Rattle.dense_mask.specs.SlotSteps.{AreFieldsBy}
use Rattle.dense_mask.proofs.slots.kept_at_start.Given as goal

abbrev pub invariant-loop-field : goal.invariant-loop-field
invariant-loop-field l = AreFieldsBy l.field (length (leaves l.tree)) (λ f leaf. called absent (not (is_sparse (settings_of l.problem) f) || not (idle (totals_in l.lists f leaf) 0))) l.slots.items
