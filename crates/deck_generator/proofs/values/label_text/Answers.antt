use Rattle.std.proofs.Common.{arith}
use Rattle.std.specs.Fmt.{decimal}
use Rattle.deck_generator.specs.Values.{field_label}
use Rattle.deck_generator.proofs.Formed.{formed_ok, label-safe}
use Rattle.deck_generator.proofs.values.label_text.Goals as goal

pub returns-clause-formed : goal.returns-clause-formed
returns-clause-formed c = formed_ok c.format.result (field_label c.args.n) c.format.ensures.ok (label-safe c.args.n (omega (arith, c.ranges.n.fits)))
