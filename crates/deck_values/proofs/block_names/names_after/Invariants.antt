use Rattle.std.proofs.Common.{◌≡◌, nat_eq, filter, map, take}
use Rattle.std.specs.List.{starts_with}
use Rattle.deck_values.proofs.block_names.names_after.Given as goal

abbrev pub invariant-loop-i : goal.invariant-loop-i
invariant-loop-i l =
    l.names ≡ filter (λ name. starts_with nat_eq name l.prefix) (map (λ e. e.0) (take l.i l.deck))
