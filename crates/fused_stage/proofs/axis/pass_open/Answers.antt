use Rattle.std.proofs.Common.{◌≤◌, true, false}
use Rattle.upwind_fluxes.specs.declared.donor.Donor.TheVariants.{Below, Above}
use Rattle.transport_kernel.specs.Update.{total_at}
use Rattle.fused_stage.specs.Layers.{AxisPass, after_axis, axis_pass, begun, end_open, first_open}
use Rattle.fused_stage.proofs.ClosedSides.{cell_becomes, cell_pays, donor_bound, layers_become, moved_cell, moved_layers, open_cell, open_depth}
use Rattle.fused_stage.proofs.axis.pass_open.Goals as goal

pub pass_layers-requires-clause-taken : goal.pass_layers-requires-clause-taken
pass_layers-requires-clause-taken g c = λ i w.
    let x : AxisPass = axis_pass c.args.layout.now c.args.axis c.args.closed.now c.args.cells.now (g.S.Start.begins c.args.start) (g.P.Portions.rate c.args.right) (g.P.Portions.denominator c.args.right) (g.Q.Portions.rate c.args.left) (g.Q.Portions.denominator c.args.left) in
    let depth = open_depth c.args.layout.now c.args.axis c.args.closed.now c.closed_layers-from.result c.closed_layers-above.result c.args.layout.now.sound c.requires.axis c.closed_layers-from.ensures c.closed_layers-above.ensures in
    let v = moved_cell c.args.layout.now c.args.axis _ _ (first_open c.args.closed.now c.args.axis) (end_open c.args.layout.now c.args.closed.now c.args.axis) i c.closed_layers-from.ensures depth w in
    let p = cell_pays x i (begun x (total_at c.args.layout.now c.args.into.now i) i) _ _ _ _ (open_cell x i c.args.layout.now.sound c.requires.axis v) (c.requires.passes.pays i v) (c.requires.passes.small i v) in (
      donor_bound (λ t. t ≤ g.P.Portions.greatest c.args.right) c.args.layout.now c.args.axis Below false c.args.cells.now i c.args.layout.now.sound c.requires.axis c.requires.cell_list w.within c.requires.rights,
      donor_bound (λ t. t ≤ g.Q.Portions.greatest c.args.left) c.args.layout.now c.args.axis Above true c.args.cells.now i c.args.layout.now.sound c.requires.axis c.requires.cell_list w.within c.requires.lefts,
      donor_bound (λ t. t ≤ g.Q.Portions.greatest c.args.left) c.args.layout.now c.args.axis Above false c.args.cells.now i c.args.layout.now.sound c.requires.axis c.requires.cell_list w.within c.requires.lefts,
      donor_bound (λ t. t ≤ g.P.Portions.greatest c.args.right) c.args.layout.now c.args.axis Below true c.args.cells.now i c.args.layout.now.sound c.requires.axis c.requires.cell_list w.within c.requires.rights,
      p.pays,
      p.small,
    )

pub returns : goal.returns
returns g c =
    let x : AxisPass = axis_pass c.args.layout.now c.args.axis c.args.closed.now c.args.cells.now (g.S.Start.begins c.args.start) (g.P.Portions.rate c.args.right) (g.P.Portions.denominator c.args.right) (g.Q.Portions.rate c.args.left) (g.Q.Portions.denominator c.args.left) in
    let depth = open_depth c.args.layout.now c.args.axis c.args.closed.now c.closed_layers-from.result c.closed_layers-above.result c.args.layout.now.sound c.requires.axis c.closed_layers-from.ensures c.closed_layers-above.ensures in
    layers_become _ (after_axis x) c.args.layout.now c.args.axis (first_open c.args.closed.now c.args.axis) (end_open c.args.layout.now c.args.closed.now c.args.axis) c.args.into.now c.pass_layers.new.into (λ i v own. cell_becomes x i (begun x own i) _ _ _ _ (open_cell x i c.args.layout.now.sound c.requires.axis v))
    (moved_layers _ c.args.layout.now c.args.axis _ _ (first_open c.args.closed.now c.args.axis) (end_open c.args.layout.now c.args.closed.now c.args.axis) c.args.into.now c.pass_layers.new.into c.closed_layers-from.ensures depth c.pass_layers.ensures)
