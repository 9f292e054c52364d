use Rattle.std.proofs.Common.{◌∙◌}
use Rattle.clap.specs.Words.{found_of}
use Rattle.mesh_words.proofs.RowLemmas.{first_of-rows}
use Rattle.mesh_words.proofs.raw_arguments.value_of.Goals as goal

pub returns : goal.returns
returns c = c.get_str.ensures ∙ first_of-rows c.args.id.now (found_of c.args.matches.now)
