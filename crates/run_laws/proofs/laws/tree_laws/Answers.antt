use Rattle.run_laws.proofs.RunTrees.{next_least, opening_least, run_stands}
use Rattle.run_laws.proofs.laws.tree_laws.Goals as goal

pub returns-clause-opening : goal.returns-clause-opening
returns-clause-opening c = opening_least

pub returns-clause-next : goal.returns-clause-next
returns-clause-next c = next_least

pub returns-clause-meshes : goal.returns-clause-meshes
returns-clause-meshes c = run_stands
