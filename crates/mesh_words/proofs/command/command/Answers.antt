use Rattle.std.proofs.lemmas.Grind.{common_steps}
use Rattle.std.proofs.Common.{arith}
use Rattle.mesh_words.specs.Command.{command}
use Rattle.mesh_words.proofs.command.command.Goals as goal

pub returns : goal.returns
unfolding command
returns c = grind (arith, common_steps)
