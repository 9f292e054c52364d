use Rattle.std.proofs.Common.{arith}
use Rattle.std.specs.Fmt.{decimal}
use Rattle.deck_generator.specs.Values.{negative_text}
use Rattle.deck_generator.proofs.Formed.{formed_ok, negative-safe}
use Rattle.deck_generator.proofs.values.negative_text.Goals as goal

pub returns-clause-formed : goal.returns-clause-formed
returns-clause-formed c = formed_ok c.format.result (negative_text c.args.n) c.format.ensures.ok (negative-safe c.args.n (omega (arith, c.ranges.n.fits)))
