use Rattle.std.proofs.Common.{◌≡◌, ◌++◌, drop}
use Rattle.std.specs.String.{string_bytes}
use Rattle.input_file.specs.Printed.{printed}
use Rattle.input_file.proofs.deck.Deck.print.Given as goal

abbrev pub invariant-loop-i : goal.invariant-loop-i
invariant-loop-i l = string_bytes l.text ++ printed (drop l.i l.self) ≡ printed l.self
