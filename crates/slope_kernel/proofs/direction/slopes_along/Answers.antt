use Rattle.std.proofs.Common.{ℕ, ◌∙◌, ap, cond, ◌&&◌, true, false}
use Rattle.mesh_num.specs.Portion.{portion}
use Rattle.upwind_fluxes.specs.Fluxes.{is_at_side, is_closed_side}
use Rattle.upwind_fluxes.proofs.SideFaces.{closed_at_either}
use Rattle.slope_kernel.specs.Slopes.{donor_at}
use Rattle.slope_kernel.proofs.direction.slopes_along.Goals as goal

pub returns-clause-along : goal.returns-clause-along
returns-clause-along c = λ i w.
    let l = c.args.layout.now in
    let low = is_closed_side c.args.closed.now c.args.axis false && is_at_side l c.args.axis false i in
    let high = is_closed_side c.args.closed.now c.args.axis true && is_at_side l c.args.axis true i in
    let x = portion (donor_at l c.args.donor c.args.cells.now c.args.axis i) c.args.fraction.now.rate c.args.fraction.now.denominator in
    c.close_if-2.ensures.along i w
    ∙ ap (λ (n : ℕ). cond high 0 n) (c.close_if.ensures.along i w ∙ ap (λ (n : ℕ). cond low 0 n) (c.write_direction.ensures.along i w))
    ∙ closed_at_either low high x
