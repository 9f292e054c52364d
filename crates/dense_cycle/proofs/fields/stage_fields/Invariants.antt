use Rattle.std.proofs.Common.{length}
use Rattle.block_tree.specs.Blocks.{leaves}
use Rattle.problem_set.specs.SettingsOf.{settings_of}
use Rattle.dense_mesh.specs.Meshes.{mesh_of}
use Rattle.dense_cycle.specs.Fields.{HasFields}
use Rattle.dense_cycle.specs.Work.{FitsWork}
use Rattle.dense_cycle.proofs.fields.stage_fields.Given as goal

abbrev pub invariant-loop-field : goal.invariant-loop-field
invariant-loop-field l = record {
  work_fits : FitsWork l.fn.layout (length (leaves l.fn.tree)) l.work;
  has : HasFields (settings_of l.fn.problem) (mesh_of l.fn.tree l.fn.problem.cells l.fn.lists) l.field l.staged;
}
