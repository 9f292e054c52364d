use Rattle.std.proofs.Common.{arith}
use Rattle.std.specs.Fmt.{decimal}
use Rattle.deck_generator.specs.Values.{field_label}
use Rattle.deck_generator.proofs.Formed.{formed_ok, decimal-safe}
use Rattle.deck_generator.proofs.values.number_text.Goals as goal

pub returns-clause-formed : goal.returns-clause-formed
returns-clause-formed c = formed_ok c.format.result (decimal c.args.n) c.format.ensures.ok (decimal-safe c.args.n (omega (arith, c.ranges.n.fits)))
