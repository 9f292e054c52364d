use Rattle.std.proofs.Common.{[]}
use Rattle.input_file.specs.Blocks.{Blocks}
use Rattle.input_file.proofs.FaultLemmas.{answer-cases}
use Rattle.input_file.proofs.pieces.parse.Goals as goal

pub returns-clause-no_override : goal.returns-clause-no_override
returns-clause-no_override c =
    answer-cases (λ (d : Blocks). d) c.finish.result c.args.bytes.now (c.finish.ensures.answer c.args.bytes.now (c.in_ok-feed.ensures.ok [] c.new-reader.ensures))
