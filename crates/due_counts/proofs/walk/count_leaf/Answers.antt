use Rattle.std.proofs.Common.{ap, arith}
use Rattle.mesh_rules.specs.Due.{coarser_in}
use Rattle.mesh_rules.specs.Regions.{leaves_in}
use Rattle.due_counts.proofs.Sided.{axis_few, axis_more, can_take_less, few_fluxes, few_ghosts, leaf_fluxes_few, leaf_ghosts_few, no_axis}
use Rattle.due_counts.proofs.walk.count_leaf.Goals as goal

pub loop-axis-init : goal.loop-axis-init
loop-axis-init c = no_axis c.args.tree.now c.args.size c.args.leaf c.args.ghosts.now c.args.fluxes.now c.requires.ghosts.bounded c.requires.fluxes.bounded

pub count_side-requires-clause-ghosts : goal.count_side-requires-clause-ghosts
count_side-requires-clause-ghosts c =
    let before = axis_few c.args.tree.now c.args.size c.args.leaf c.loop-axis.axis leaves_in (λ x high. few_ghosts c.args.tree.now c.args.size c.args.leaf x high) in
    can_take_less _ 48 8 _ c.args.ghosts.now c.loop-axis.ghosts c.requires.ghosts c.loop-axis.invariant.ghost_part
    (omega (arith, before, c.loop-axis-test.true, c.len.ensures.kept.shape.most, ap (λ s. s.dims) c.shape.ensures))

pub count_side-requires-clause-fluxes : goal.count_side-requires-clause-fluxes
count_side-requires-clause-fluxes c =
    let before = axis_few c.args.tree.now c.args.size c.args.leaf c.loop-axis.axis coarser_in (λ x high. few_fluxes c.args.tree.now c.args.size c.args.leaf x high) in
    can_take_less _ 48 8 _ c.args.fluxes.now c.loop-axis.fluxes c.requires.fluxes c.loop-axis.invariant.flux_part
    (omega (arith, before, c.loop-axis-test.true, c.len.ensures.kept.shape.most, ap (λ s. s.dims) c.shape.ensures))

pub count_side-requires-in-loop-axis-clause-ghosts : goal.count_side-requires-in-loop-axis-clause-ghosts
count_side-requires-in-loop-axis-clause-ghosts c =
    let before = axis_few c.args.tree.now c.args.size c.args.leaf c.loop-axis.axis leaves_in (λ x high. few_ghosts c.args.tree.now c.args.size c.args.leaf x high) in
    can_take_less _ 16 8 _ c.loop-axis.ghosts c.count_side.new.ghosts
    (can_take_less _ 48 16 _ c.args.ghosts.now c.loop-axis.ghosts c.requires.ghosts c.loop-axis.invariant.ghost_part
    (omega (arith, before, c.loop-axis-test.true, c.len.ensures.kept.shape.most, ap (λ s. s.dims) c.shape.ensures)))
    c.count_side.ensures.ghosts (omega (arith, c.count_side.ensures.few))

pub count_side-requires-in-loop-axis-clause-fluxes : goal.count_side-requires-in-loop-axis-clause-fluxes
count_side-requires-in-loop-axis-clause-fluxes c =
    let before = axis_few c.args.tree.now c.args.size c.args.leaf c.loop-axis.axis coarser_in (λ x high. few_fluxes c.args.tree.now c.args.size c.args.leaf x high) in
    can_take_less _ 16 8 _ c.loop-axis.fluxes c.count_side.new.fluxes
    (can_take_less _ 48 16 _ c.args.fluxes.now c.loop-axis.fluxes c.requires.fluxes c.loop-axis.invariant.flux_part
    (omega (arith, before, c.loop-axis-test.true, c.len.ensures.kept.shape.most, ap (λ s. s.dims) c.shape.ensures)))
    c.count_side.ensures.fluxes (omega (arith, c.count_side.ensures.fewer))

pub loop-axis-preserved : goal.loop-axis-preserved
loop-axis-preserved c = record {
  ghost_part = axis_more c.args.tree.now c.args.size c.args.leaf c.loop-axis.axis leaves_in c.args.ghosts.now c.loop-axis.ghosts c.count_side.new.ghosts
      c.count_side-in-loop-axis.new.ghosts c.loop-axis.invariant.ghost_part c.count_side.ensures.ghosts c.count_side-in-loop-axis.ensures.ghosts;
  flux_part = axis_more c.args.tree.now c.args.size c.args.leaf c.loop-axis.axis coarser_in c.args.fluxes.now c.loop-axis.fluxes c.count_side.new.fluxes
      c.count_side-in-loop-axis.new.fluxes c.loop-axis.invariant.flux_part c.count_side.ensures.fluxes c.count_side-in-loop-axis.ensures.fluxes;
}

pub returns-clause-few : goal.returns-clause-few
returns-clause-few c = leaf_ghosts_few c.args.tree.now c.args.size c.args.leaf c.len.ensures.kept.shape.most

pub returns-clause-fewer : goal.returns-clause-fewer
returns-clause-fewer c = leaf_fluxes_few c.args.tree.now c.args.size c.args.leaf c.len.ensures.kept.shape.most
