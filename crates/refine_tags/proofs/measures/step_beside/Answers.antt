use Rattle.std.proofs.Common.{[], ◌∷◌}
use Rattle.refine_tags.specs.Measures.{total_at}
use Rattle.refine_tags.proofs.Steps.{beside_each, beside_least}
use Rattle.refine_tags.proofs.measures.step_beside.Goals as goal

pub returns-then-plane-layout-clause-each : goal.returns-then-plane-layout-clause-each
returns-then-plane-layout-clause-each c = λ x small is.
    beside_each _ c.args.here.now c.row_at.result.now (λ x. total_at c.args.cells.now c.args.own.now (x ∷ c.args.row ∷ c.args.plane ∷ [])) c.greatest_difference.result c.requires.here c.greatest_difference.ensures c.row_at.ensures.cells x small

pub returns-then-plane-layout-clause-least : goal.returns-then-plane-layout-clause-least
returns-then-plane-layout-clause-least c = λ most each.
    beside_least _ c.args.here.now c.row_at.result.now (λ x. total_at c.args.cells.now c.args.own.now (x ∷ c.args.row ∷ c.args.plane ∷ [])) c.greatest_difference.result most c.requires.here c.greatest_difference.ensures c.row_at.ensures.cells
    (λ x small. each x small (record { row_in = c.if-row-layout.true; plane_in = c.if-plane-layout.true }))
