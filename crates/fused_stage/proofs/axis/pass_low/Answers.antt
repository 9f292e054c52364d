use Rattle.std.proofs.Common.{◌≡◌, ◌≤◌, Bool, cond, true, false, arith, refl, ap, sym}
use Rattle.upwind_fluxes.specs.declared.donor.Donor.TheVariants.{Below, Above}
use Rattle.block_layout.specs.Layouts.{place}
use Rattle.upwind_fluxes.specs.Beside.{beside_face}
use Rattle.transport_kernel.specs.Update.{face_beside, total_at}
use Rattle.fused_stage.specs.Layers.{AxisPass, after_axis, axis_pass, begun, first_open}
use Rattle.fused_stage.proofs.ClosedSides.{cell_becomes, cell_pays, donor_bound, layers_become, low_cell, moved_cell, moved_layers}
use Rattle.fused_stage.proofs.axis.pass_low.Goals as goal

pub pass_layers-requires-clause-taken : goal.pass_layers-requires-clause-taken
pass_layers-requires-clause-taken g c = λ i w.
    let x : AxisPass = axis_pass c.args.layout.now c.args.axis c.args.closed.now c.args.cells.now (g.S.Start.begins c.args.start) (g.P.Portions.rate c.args.right) (g.P.Portions.denominator c.args.right) (g.Q.Portions.rate c.args.left) (g.Q.Portions.denominator c.args.left) in
    let one : 1 ≡ first_open c.args.closed.now c.args.axis = sym (ap (λ (b : Bool). cond b 1 0) c.if-closed-axis.true) in
    let v = moved_cell c.args.layout.now c.args.axis 0 1 0 (first_open c.args.closed.now c.args.axis) i refl one w in
    let p = cell_pays x i (begun x (total_at c.args.layout.now c.args.into.now i) i) _ _ _ _ (low_cell x i c.args.layout.now.sound c.requires.axis c.if-closed-axis.true w) (c.requires.passes.pays i v) (c.requires.passes.small i v) in (
      omega (arith, c.type_inv.cells (place c.args.layout.now (beside_face c.args.layout.now c.args.axis Below (face_beside i c.args.axis false)))),
      donor_bound (λ t. t ≤ g.Q.Portions.greatest c.args.left) c.args.layout.now c.args.axis Above true c.args.cells.now i c.args.layout.now.sound c.requires.axis c.requires.cell_list w.within c.requires.lefts,
      omega (arith, c.type_inv.cells (place c.args.layout.now (beside_face c.args.layout.now c.args.axis Above (face_beside i c.args.axis false)))),
      donor_bound (λ t. t ≤ g.P.Portions.greatest c.args.right) c.args.layout.now c.args.axis Below true c.args.cells.now i c.args.layout.now.sound c.requires.axis c.requires.cell_list w.within c.requires.rights,
      p.pays,
      p.small,
    )

pub returns-then-closed-axis : goal.returns-then-closed-axis
returns-then-closed-axis g c =
    let x : AxisPass = axis_pass c.args.layout.now c.args.axis c.args.closed.now c.args.cells.now (g.S.Start.begins c.args.start) (g.P.Portions.rate c.args.right) (g.P.Portions.denominator c.args.right) (g.Q.Portions.rate c.args.left) (g.Q.Portions.denominator c.args.left) in
    let one : 1 ≡ first_open c.args.closed.now c.args.axis = sym (ap (λ (b : Bool). cond b 1 0) c.if-closed-axis.true) in
    layers_become _ (after_axis x) c.args.layout.now c.args.axis 0 (first_open c.args.closed.now c.args.axis) c.args.into.now c.pass_layers.new.into (λ i v own. cell_becomes x i (begun x own i) _ _ _ _ (low_cell x i c.args.layout.now.sound c.requires.axis c.if-closed-axis.true (moved_cell c.args.layout.now c.args.axis 0 (first_open c.args.closed.now c.args.axis) 0 1 i refl (sym one) v)))
    (moved_layers _ c.args.layout.now c.args.axis 0 1 0 (first_open c.args.closed.now c.args.axis) c.args.into.now c.pass_layers.new.into refl one c.pass_layers.ensures)
