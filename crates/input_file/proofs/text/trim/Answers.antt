use Rattle.input_file.proofs.TextLemmas.{blanks_trimmed}
use Rattle.input_file.proofs.text.trim.Goals as goal

pub returns : goal.returns
returns c = blanks_trimmed c.args.text.now c.trim_matches.result.now c.trim_matches.ensures.matches
