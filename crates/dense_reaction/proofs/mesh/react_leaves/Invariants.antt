use Rattle.problem_set.specs.SettingsOf.{settings_of}
use Rattle.mesh_rules.specs.Fields.{field_count}
use Rattle.dense_mesh.specs.Meshes.{mesh_of}
use Rattle.dense_reaction.proofs.LeafSteps.{HaveReacted}
use Rattle.dense_reaction.proofs.mesh.react_leaves.Given as goal

abbrev pub invariant-loop-leaf : goal.invariant-loop-leaf
invariant-loop-leaf g l =
    HaveReacted (g.C.CellKernel.reacts (g.C.CellKernel.code l.kernel)) (field_count (settings_of l.problem)) (mesh_of l.tree l.problem.cells l.lists) l.leaf l.into.items l.flows
