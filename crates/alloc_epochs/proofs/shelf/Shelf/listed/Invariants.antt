use Rattle.std.proofs.Common.{◌≡◌}
use Rattle.std.specs.Prelude.{flat_map}
use Rattle.std.specs.List.{range_with_len}
use Rattle.alloc_epochs.specs.Shelf.{listed_on, takes}
use Rattle.alloc_epochs.proofs.shelf.Shelf.listed.Given as goal

abbrev pub invariant-loop-i : goal.invariant-loop-i
invariant-loop-i l = l.places.items ≡ flat_map (listed_on l.self (takes l.fields.fields l.kind)) (range_with_len l.self.first l.i)
