use Rattle.std.proofs.Common.{sym, lit<, ◌∙◌}
use Rattle.std.specs.Prelude.{None}
use Rattle.std.proofs.lemmas.Str.Pattern.{strip_prefix_char}
use Rattle.input_file.proofs.LineLemmas.{form_of_cleaned-other}
use Rattle.input_file.proofs.line.form_of_cleaned.Goals as goal

pub returns-in-None-clause-form : goal.returns-in-None-clause-form
returns-in-None-clause-form c = c.setting_form.ensures.form ∙ sym (form_of_cleaned-other c.args.line.now (sym c.is_empty.ensures ∙ c.if-is_empty.false) (strip_prefix_char 60 c.args.line.now None c.in-None.ensures.cases (lit< tt)))
