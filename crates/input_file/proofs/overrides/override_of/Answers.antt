use Rattle.input_file.proofs.OverrideLemmas.{override_of-none}
use Rattle.input_file.proofs.overrides.override_of.Goals as goal

pub returns-in-None-clause-value : goal.returns-in-None-clause-value
returns-in-None-clause-value c = override_of-none c.args.word.now c.in-None.ensures.cases
