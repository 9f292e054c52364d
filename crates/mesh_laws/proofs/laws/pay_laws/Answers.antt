use Rattle.mesh_laws.proofs.Pays as pays
use Rattle.mesh_laws.proofs.laws.pay_laws.Goals as goal

pub returns-clause-pays : goal.returns-clause-pays
returns-clause-pays c = pays.pays_at_most

pub returns-clause-nothing : goal.returns-clause-nothing
returns-clause-nothing c = pays.nothing_from_nothing
