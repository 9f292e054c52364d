use Rattle.input_file.proofs.PieceLemmas.{line-of-text}
use Rattle.input_file.proofs.found.Found.after_line.Goals as goal

pub returns-in-Ok : goal.returns-in-Ok
returns-in-Ok c =
    rw (line-of-text c.args.number c.args.start c.args.self c.args.line.now c.in-Ok.ensures.cases.1, ← c.in-Ok.ensures.cases.0) c.after_text.ensures
