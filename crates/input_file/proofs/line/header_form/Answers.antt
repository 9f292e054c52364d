use Rattle.std.proofs.Common.{sym, lit<}
use Rattle.std.specs.Prelude.{None}
use Rattle.std.proofs.lemmas.Str.Pattern.{strip_suffix_char}
use Rattle.input_file.proofs.LineLemmas.{header_form-none}
use Rattle.input_file.proofs.line.header_form.Goals as goal

pub returns-in-None-clause-form : goal.returns-in-None-clause-form
returns-in-None-clause-form c = sym (header_form-none c.args.rest.now (strip_suffix_char 62 c.args.rest.now None c.in-None.ensures.cases (lit< tt)))
