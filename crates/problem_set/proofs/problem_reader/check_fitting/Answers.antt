use Rattle.std.proofs.Common.{◌-◌}
use Rattle.std.specs.List.{zip}
use Rattle.problem_set.proofs.RateLemmas.{fit_means}
use Rattle.problem_set.proofs.problem_reader.check_fitting.Goals as goal

pub returns-then-total-most-clause-rates :
    goal.returns-then-total-most-clause-rates
returns-then-total-most-clause-rates c =
    let p = c.args.sections.now in
    fit_means p.grid.shape.dims (p.mesh.refining.levels - 1) p.stepping.cycle.denominator (zip p.repeated.field_table.fields.fields p.repeated.field_table.moves) c.in_ok-check_section_rates.ensures
