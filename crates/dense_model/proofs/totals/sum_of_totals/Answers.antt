use Rattle.std.proofs.Common.{arith}
use Rattle.problem_set.specs.SettingsOf.{settings_of}
use Rattle.mesh_rules.specs.Mesh.{total_of}
use Rattle.mesh_rules.specs.Fields.{field_count}
use Rattle.dense_mesh.specs.Meshes.{mesh_of}
use Rattle.dense_model.proofs.Runs.{next_le}
use Rattle.dense_model.proofs.totals.sum_of_totals.Goals as goal

pub overflow_add-sum : goal.overflow_add-sum
overflow_add-sum c =
    let q = settings_of c.args.problem.now in
    let m = mesh_of c.args.tree.now q.cells c.args.lists.now in
    let part = next_le (field_count q) c.loop-field.field (total_of m) (omega (arith, c.args.problem.now.fields_sound.same_length)) in
    omega (arith, c.loop-field.invariant, c.field_total-sum.ensures.total, part, c.requires.bound)
