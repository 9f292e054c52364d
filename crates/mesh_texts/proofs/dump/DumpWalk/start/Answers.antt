use Rattle.std.proofs.Common.{arith}
use Rattle.problem_set.specs.SettingsOf.{settings_of}
use Rattle.dense_mesh.specs.Meshes.{mesh_of}
use Rattle.mesh_texts.proofs.Blocks.{blocks_are}
use Rattle.mesh_texts.proofs.Walks.{pieces_are}
use Rattle.mesh_texts.proofs.dump.DumpWalk.start.Goals as goal

pub invariant_of-result : goal.invariant_of-result
invariant_of-result c = (blocks_are (settings_of c.args.problem.now) c.args.tree.now c.args.layout.now c.args.lists.now c.requires, omega arith)

pub returns-clause-whole : goal.returns-clause-whole
returns-clause-whole c = pieces_are (settings_of c.args.problem.now) (mesh_of c.args.tree.now c.args.problem.now.cells c.args.lists.now) c.args.cycle
