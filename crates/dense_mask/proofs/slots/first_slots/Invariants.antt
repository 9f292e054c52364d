use Rattle.std.proofs.Common.{[], not, ◌||◌}
use Rattle.std.specs.List.{slice_index_or}
use Rattle.problem_set.specs.SettingsOf.{settings_of}
use Rattle.sparse_pool.specs.Idle.{idle}
use Rattle.mesh_rules.specs.Fields.{is_sparse}
use Rattle.mesh_rules.specs.Mask.{absent, called}
use Rattle.dense_mask.specs.SlotSteps.{AreSlotsBy}
use Rattle.dense_mask.proofs.slots.first_slots.Given as goal

abbrev pub invariant-loop-cells : goal.invariant-loop-cells
invariant-loop-cells l = AreSlotsBy l.cells-index (λ leaf. called absent (not (is_sparse (settings_of l.problem) l.field) || not (idle (slice_index_or l.list leaf []) 0))) l.slots.items
