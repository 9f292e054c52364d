use Rattle.std.proofs.Common.{◌≡◌, ◌≤◌, ◌-◌, ◌+◌, Bool, cond, true, false, arith, ap, sym}
use Rattle.upwind_fluxes.specs.declared.donor.Donor.TheVariants.{Below, Above}
use Rattle.block_layout.specs.Layouts.{cells_along, place}
use Rattle.upwind_fluxes.specs.Beside.{beside_face}
use Rattle.transport_kernel.specs.Update.{face_beside, total_at}
use Rattle.fused_stage.specs.Layers.{AxisPass, after_axis, axis_pass, begun, end_open}
use Rattle.fused_stage.proofs.ClosedSides.{cell_becomes, cell_pays, donor_bound, high_cell, layers_become, moved_cell, moved_layers, wide}
use Rattle.fused_stage.proofs.axis.pass_high.Goals as goal

pub pass_layers-requires-clause-taken : goal.pass_layers-requires-clause-taken
pass_layers-requires-clause-taken g c = λ i w.
    let x : AxisPass = axis_pass c.args.layout.now c.args.axis c.args.closed.now c.args.cells.now (g.S.Start.begins c.args.start) (g.P.Portions.rate c.args.right) (g.P.Portions.denominator c.args.right) (g.Q.Portions.rate c.args.left) (g.Q.Portions.denominator c.args.left) in
    let n = cells_along c.args.layout.now c.args.axis in
    let four = wide c.args.layout.now c.args.axis c.args.layout.now.sound c.requires.axis in
    let last : n - 1 ≡ end_open c.args.layout.now c.args.closed.now c.args.axis = ap (λ (b : Bool). n - cond b 1 0) (sym c.if-closed-axis.true) in
    let whole : n - 1 + 1 ≡ n = omega (arith, four) in
    let v = moved_cell c.args.layout.now c.args.axis (n - 1) (n - 1 + 1) (end_open c.args.layout.now c.args.closed.now c.args.axis) n i last whole w in
    let p = cell_pays x i (begun x (total_at c.args.layout.now c.args.into.now i) i) _ _ _ _ (high_cell x i (n - 1) c.args.layout.now.sound c.requires.axis c.if-closed-axis.true whole w) (c.requires.passes.pays i v) (c.requires.passes.small i v) in (
      donor_bound (λ t. t ≤ g.P.Portions.greatest c.args.right) c.args.layout.now c.args.axis Below false c.args.cells.now i c.args.layout.now.sound c.requires.axis c.requires.cell_list w.within c.requires.rights,
      omega (arith, c.type_inv.cells (place c.args.layout.now (beside_face c.args.layout.now c.args.axis Above (face_beside i c.args.axis true)))),
      donor_bound (λ t. t ≤ g.Q.Portions.greatest c.args.left) c.args.layout.now c.args.axis Above false c.args.cells.now i c.args.layout.now.sound c.requires.axis c.requires.cell_list w.within c.requires.lefts,
      omega (arith, c.type_inv.cells (place c.args.layout.now (beside_face c.args.layout.now c.args.axis Below (face_beside i c.args.axis true)))),
      p.pays,
      p.small,
    )

pub returns-then-closed-axis : goal.returns-then-closed-axis
returns-then-closed-axis g c =
    let x : AxisPass = axis_pass c.args.layout.now c.args.axis c.args.closed.now c.args.cells.now (g.S.Start.begins c.args.start) (g.P.Portions.rate c.args.right) (g.P.Portions.denominator c.args.right) (g.Q.Portions.rate c.args.left) (g.Q.Portions.denominator c.args.left) in
    let n = cells_along c.args.layout.now c.args.axis in
    let four = wide c.args.layout.now c.args.axis c.args.layout.now.sound c.requires.axis in
    let last : n - 1 ≡ end_open c.args.layout.now c.args.closed.now c.args.axis = ap (λ (b : Bool). n - cond b 1 0) (sym c.if-closed-axis.true) in
    let whole : n - 1 + 1 ≡ n = omega (arith, four) in
    layers_become _ (after_axis x) c.args.layout.now c.args.axis (end_open c.args.layout.now c.args.closed.now c.args.axis) n c.args.into.now c.pass_layers.new.into (λ i v own. cell_becomes x i (begun x own i) _ _ _ _ (high_cell x i (n - 1) c.args.layout.now.sound c.requires.axis c.if-closed-axis.true whole (moved_cell c.args.layout.now c.args.axis (end_open c.args.layout.now c.args.closed.now c.args.axis) n (n - 1) (n - 1 + 1) i (sym last) (sym whole) v)))
    (moved_layers _ c.args.layout.now c.args.axis (n - 1) (n - 1 + 1) (end_open c.args.layout.now c.args.closed.now c.args.axis) n c.args.into.now c.pass_layers.new.into last whole c.pass_layers.ensures)
