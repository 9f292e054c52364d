use Rattle.problem_set.specs.SettingsOf.{settings_of}
use Rattle.dense_mesh.specs.Meshes.{mesh_of}
use Rattle.dense_cycle.proofs.fields.stage_fields.Goals as goal

pub loop-field-init : goal.loop-field-init
loop-field-init c = record {
  work_fits = c.requires.work;
  has = c.empty-staged.ensures (settings_of c.args.problem.now) (mesh_of c.args.tree.now c.args.problem.now.cells c.args.lists.now);
}
