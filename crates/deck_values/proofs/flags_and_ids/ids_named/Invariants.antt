use Rattle.std.proofs.Common.{◌≡◌, Some, map, take}
use Rattle.deck_values.specs.FlagsAndIds.{each_some, id_of}
use Rattle.deck_values.proofs.flags_and_ids.ids_named.Given as goal

abbrev pub invariant-loop-i : goal.invariant-loop-i
invariant-loop-i l = each_some id_of (take l.i (map (λ x. x.now) l.items)) ≡ Some l.ids.items
