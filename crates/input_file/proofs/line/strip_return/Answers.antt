use Rattle.std.proofs.Common.{sym, lit<}
use Rattle.std.specs.Prelude.{None}
use Rattle.std.proofs.lemmas.Str.Pattern.{strip_suffix_char}
use Rattle.input_file.proofs.LineLemmas.{without_return-none}
use Rattle.input_file.proofs.line.strip_return.Goals as goal

pub returns-in-None : goal.returns-in-None
returns-in-None c = sym (without_return-none c.args.line.now (strip_suffix_char 13 c.args.line.now None c.in-None.ensures.cases (lit< tt)))
