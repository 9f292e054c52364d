use Rattle.std.proofs.Common.{arith}
use Rattle.deck_generator.proofs.blocks.add_mesh_settings.Goals as goal

pub returns : goal.returns
returns c = rw (← c.refinement_word-refinement.ensures.value) c.add_settings.ensures
