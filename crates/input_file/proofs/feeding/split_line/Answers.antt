use Rattle.std.proofs.Common.{sym, ◌∙◌}
use Rattle.input_file.proofs.PieceLemmas.{cut-at, no-cut}
use Rattle.input_file.proofs.feeding.split_line.Goals as goal

pub returns-in-Some-clause-parts : goal.returns-in-Some-clause-parts
returns-in-Some-clause-parts c = (cut-at c.args.bytes.now c.in-Some.end (sym c.line_end.ensures.place ∙ c.in-Some.is)).parts

pub returns-in-Some-clause-before : goal.returns-in-Some-clause-before
returns-in-Some-clause-before c = (cut-at c.args.bytes.now c.in-Some.end (sym c.line_end.ensures.place ∙ c.in-Some.is)).before

pub returns-in-None-clause-none : goal.returns-in-None-clause-none
returns-in-None-clause-none c = no-cut c.args.bytes.now (sym c.line_end.ensures.place ∙ c.in-None.is)
