use Rattle.leaf_stages.proofs.RateFits.{three_rates}
use Rattle.leaf_stages.proofs.rates.level_rates.Goals as goal

pub returns-clause-rates : goal.returns-clause-rates
returns-clause-rates c =
    three_rates c.args.problem.now c.args.field c.args.level c.axis_rates.result c.axis_rates-2.result c.axis_rates-3.result c.axis_rates.ensures.right c.axis_rates.ensures.left c.axis_rates-2.ensures.right c.axis_rates-2.ensures.left
    c.axis_rates-3.ensures.right c.axis_rates-3.ensures.left
