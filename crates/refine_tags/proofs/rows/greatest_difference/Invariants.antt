use Rattle.std.proofs.Common.{◌≡◌, slice_index}
use Rattle.mesh_rules.specs.Sums.{greatest_to}
use Rattle.mesh_rules.specs.Tags.{difference}
use Rattle.refine_tags.proofs.rows.greatest_difference.Given as goal

abbrev pub invariant-loop-x : goal.invariant-loop-x
invariant-loop-x l = l.best ≡ greatest_to l.x (λ x. difference (slice_index l.row x) (slice_index l.next x))
