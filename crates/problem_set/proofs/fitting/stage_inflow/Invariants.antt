use Rattle.std.proofs.Common.{◌≡◌, ◌≤◌, ◌*◌, ◌^◌, take}
use Rattle.std.specs.List.{sum_by, zip}
use Rattle.package_fields.specs.declared.field.Field.{Field}
use Rattle.deck_entries.specs.declared.entries.Moves.{Moves}
use Rattle.problem_set.specs.Rates.{field_inflow}
use Rattle.problem_set.proofs.fitting.stage_inflow.Given as goal

abbrev pub invariant-loop-i : goal.invariant-loop-i
invariant-loop-i l = record {
  total : l.sum ≡ sum_by (λ (p : Field × Moves). field_inflow l.dims l.size l.faces p.0 p.1) (take l.i (zip l.fields l.moves));
  bound : l.sum ≤ 2 ^ 99 * l.i;
}
