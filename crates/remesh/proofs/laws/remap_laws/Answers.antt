use Rattle.remesh.proofs.Sound.{sound_states_remap}
use Rattle.remesh.proofs.laws.remap_laws.Goals as goal

pub returns : goal.returns
returns c = sound_states_remap
