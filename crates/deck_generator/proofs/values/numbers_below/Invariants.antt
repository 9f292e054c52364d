use Rattle.std.proofs.Common.{◌≡◌}
use Rattle.std.specs.String.{string_bytes}
use Rattle.deck_generator.specs.Values.{numbers_below}
use Rattle.deck_generator.proofs.values.numbers_below.Given as goal

abbrev pub invariant-loop-n : goal.invariant-loop-n
invariant-loop-n l = string_bytes l.text ≡ numbers_below l.n
