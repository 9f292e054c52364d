use Rattle.mesh_laws.proofs.Conserves as conserves
use Rattle.mesh_laws.proofs.laws.conservation_law.Goals as goal

pub returns : goal.returns
returns c = conserves.stage_conserves
