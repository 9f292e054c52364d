use Rattle.mesh_laws.proofs.Drops as drops
use Rattle.mesh_laws.proofs.laws.drop_laws.Goals as goal

pub returns-clause-cut : goal.returns-clause-cut
returns-clause-cut c = drops.cut_law

pub returns-clause-drops : goal.returns-clause-drops
returns-clause-drops c = drops.drops_are_what_was_cut
