use Rattle.std.proofs.Common.{◌<◌}
use Rattle.morton_order.specs.Neighbours.{across}
use Rattle.problem_set.specs.SettingsOf.{settings_of}
use Rattle.mesh_rules.specs.Fields.{kind_at}
use Rattle.block_laws.specs.Rates.{reflects}
use Rattle.leaf_stages.proofs.RateFits.{six_closed}
use Rattle.leaf_stages.proofs.rates.closed_sides.Goals as goal

pub returns : goal.returns
returns c l get =
    six_closed _ _ _ _ _ _ (λ axis high. reflects (kind_at (settings_of c.args.problem.now) axis high) (across c.args.tree.now.shape l axis high)) (λ axis. axis < c.args.tree.now.shape.dims)
    (c.is_closed.ensures l get) (c.is_closed-2.ensures l get) (c.is_closed-3.ensures l get) (c.is_closed-4.ensures l get) (c.is_closed-5.ensures l get) (c.is_closed-6.ensures l get)
