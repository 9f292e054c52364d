use Rattle.std.proofs.Common.{◌≡◌}
use Rattle.mesh_rules.specs.Sums.{sum_to}
use Rattle.mesh_rules.specs.Mesh.{total_of}
use Rattle.dense_mesh.specs.Meshes.{mesh_of}
use Rattle.dense_model.proofs.totals.sum_of_totals.Given as goal

abbrev pub invariant-loop-field : goal.invariant-loop-field
invariant-loop-field l = l.sum ≡ sum_to l.field (total_of (mesh_of l.fn.tree l.fn.problem.cells l.fn.lists))
