use Rattle.mesh_laws.proofs.Looks as looks
use Rattle.mesh_laws.proofs.laws.look_laws.Goals as goal

pub returns-clause-law : goal.returns-clause-law
returns-clause-law c = looks.look_law

pub returns-clause-add_up : goal.returns-clause-add_up
returns-clause-add_up c = looks.looks_add_up
