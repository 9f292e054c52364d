use Rattle.std.proofs.Common.{◌≡◌, ◌++◌, length}
use Rattle.problem_set.specs.SettingsOf.{settings_of}
use Rattle.mesh_rules.specs.Texts.{dump_text}
use Rattle.dense_mesh.specs.Meshes.{mesh_of}
use Rattle.mesh_texts.specs.Dump.{joined}
use Rattle.mesh_texts.proofs.dump.dump_text.Given as goal

abbrev pub invariant-pieces : goal.invariant-pieces
invariant-pieces l = l.text.items ++ joined l.walk ≡ dump_text (settings_of l.problem) (mesh_of l.tree l.problem.cells l.lists) l.cycle

abbrev pub decreases-pieces : goal.decreases-pieces
decreases-pieces l = length l.walk
