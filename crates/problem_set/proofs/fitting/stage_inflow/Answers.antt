use Rattle.std.proofs.Common.{◌≤◌, length, arith, ap, ◌∙◌}
use Rattle.std.specs.List.{sum_by, zip}
use Rattle.std.proofs.lemmas.List.{take_all}
use Rattle.package_fields.specs.declared.field.Field.{Field}
use Rattle.deck_entries.specs.declared.entries.Moves.{Moves}
use Rattle.problem_set.specs.Rates.{field_inflow}
use Rattle.problem_set.proofs.RateLemmas.{sum_zip_more, length-zip}
use Rattle.problem_set.proofs.fitting.stage_inflow.Goals as goal

pub loop-i-preserved : goal.loop-i-preserved
loop-i-preserved c = record {
  total = omega (arith, sum_zip_more (λ (p : Field × Moves). field_inflow c.args.dims c.args.size c.args.faces.now p.0 p.1) c.args.fields.now c.args.moves.now c.loop-i.i c.field_at.result.now c.moves_at.result c.field_at.ensures c.moves_at.ensures, c.field_inflow-sum.ensures.value, c.loop-i.invariant.total);
  bound = omega (arith, c.field_inflow-sum.ensures.most, c.loop-i.invariant.bound);
}

pub returns-clause-value : goal.returns-clause-value
returns-clause-value c =
    let pairs = zip c.args.fields.now c.args.moves.now in
    let many : length pairs ≤ c.loop-i.i = omega (arith, length-zip c.args.fields.now c.args.moves.now c.requires.as_many) in
    c.loop-i.invariant.total ∙ ap (sum_by (λ (p : Field × Moves). field_inflow c.args.dims c.args.size c.args.faces.now p.0 p.1)) (take_all c.loop-i.i pairs many)
