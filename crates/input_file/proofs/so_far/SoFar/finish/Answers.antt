use Rattle.std.proofs.Common.{ap, ◌∙◌, sym}
use Rattle.input_file.specs.Pieces.{after_line}
use Rattle.input_file.proofs.PieceLemmas.{answers-itself, finished}
use Rattle.input_file.proofs.so_far.SoFar.finish.Goals as goal

pub returns : goal.returns
returns c =
    answers-itself c.into_deck.result _
    (c.into_deck.ensures ∙ sym (finished c.args.self c.in_ok-after_line.field-0 c.args.self.unended
    (c.in_ok-after_line.ensures ∙ ap (after_line c.args.self.number c.args.self.ended c.args.self.found) c.as_slice.ensures.value)))
