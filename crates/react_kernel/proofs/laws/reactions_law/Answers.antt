use Rattle.react_kernel.specs.ReactionLaws.{reactions_keep_laws}
use Rattle.react_kernel.proofs.laws.reactions_law.Goals as goal

pub returns : goal.returns
returns c = reactions_keep_laws
