use Rattle.std.proofs.Common.{◌∙◌, lit<}
use Rattle.input_file.proofs.OverrideLemmas.{override_around-none, override_around-some, rsplit-last}
use Rattle.input_file.proofs.overrides.override_around.Goals as goal

pub returns-in-None-clause-value : goal.returns-in-None-clause-value
returns-in-None-clause-value c = override_around-none c.args.path.now c.args.value.now c.in-None.ensures.cases

pub returns-in-Some-clause-value : goal.returns-in-Some-clause-value
returns-in-Some-clause-value c =
    c.override_if_formed.ensures.value
    ∙ rw (c.trim.ensures, c.trim-in-Some.ensures, c.trim-in-Some-2.ensures)
    (override_around-some c.args.path.now c.args.value.now c.in-Some.block.now c.in-Some.key.now (rsplit-last 47 c.args.path.now c.in-Some.block.now c.in-Some.key.now (lit< tt) c.in-Some.ensures.cases))
