use Rattle.std.proofs.Common.{sym, lit<}
use Rattle.std.specs.Prelude.{None}
use Rattle.std.proofs.lemmas.Str.Pattern.{split_parts}
use Rattle.input_file.proofs.LineLemmas.{setting_form-none}
use Rattle.input_file.proofs.line.setting_form.Goals as goal

pub returns-in-None-clause-form : goal.returns-in-None-clause-form
returns-in-None-clause-form c = sym (setting_form-none c.args.line.now (split_parts 61 c.args.line.now None c.in-None.ensures.cases (lit< tt)))
