use Rattle.std.proofs.Common.{◌≡◌, [], drop}
use Rattle.deck_values.specs.FlagsAndIds.{rising_after}
use Rattle.deck_values.proofs.flags_and_ids.rising.Given as goal

abbrev pub invariant-loop-id : goal.invariant-loop-id
invariant-loop-id l = rising_after [] l.ids ≡ rising_after l.risen.keys (drop l.id-index l.ids)
