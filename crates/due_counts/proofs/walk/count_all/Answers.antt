use Rattle.std.proofs.Common.{arith}
use Rattle.mesh_rules.specs.Due.{coarser_in}
use Rattle.mesh_rules.specs.Regions.{leaves_in}
use Rattle.due_counts.proofs.Sided.{can_take_less, leaf_few, leaf_fluxes_few, leaf_ghosts_few, leaf_more, no_leaf}
use Rattle.due_counts.proofs.walk.count_all.Goals as goal

pub loop-leaf-init : goal.loop-leaf-init
loop-leaf-init c = no_leaf c.args.tree.now c.args.size c.args.ghosts.now c.args.fluxes.now c.requires.ghosts.bounded c.requires.fluxes.bounded

pub count_leaf-requires-clause-ghosts : goal.count_leaf-requires-clause-ghosts
count_leaf-requires-clause-ghosts c =
    let kept = c.len-leaf-end.ensures.kept in
    let before = leaf_few c.args.tree.now c.args.size c.loop-leaf.leaf leaves_in (λ k. leaf_ghosts_few c.args.tree.now c.args.size k kept.shape.most) in
    can_take_less _ 3145728 48 _ c.args.ghosts.now c.loop-leaf.ghosts c.requires.ghosts c.loop-leaf.invariant.ghost_part
    (omega (arith, before, kept.few, c.loop-leaf-test.true, c.len-leaf-end.ensures.count))

pub count_leaf-requires-clause-fluxes : goal.count_leaf-requires-clause-fluxes
count_leaf-requires-clause-fluxes c =
    let kept = c.len-leaf-end.ensures.kept in
    let before = leaf_few c.args.tree.now c.args.size c.loop-leaf.leaf coarser_in (λ k. leaf_fluxes_few c.args.tree.now c.args.size k kept.shape.most) in
    can_take_less _ 3145728 48 _ c.args.fluxes.now c.loop-leaf.fluxes c.requires.fluxes c.loop-leaf.invariant.flux_part
    (omega (arith, before, kept.few, c.loop-leaf-test.true, c.len-leaf-end.ensures.count))

pub loop-leaf-preserved : goal.loop-leaf-preserved
loop-leaf-preserved c = record {
  ghost_part = leaf_more c.args.tree.now c.args.size c.loop-leaf.leaf leaves_in c.args.ghosts.now c.loop-leaf.ghosts c.count_leaf.new.ghosts
      c.loop-leaf.invariant.ghost_part c.count_leaf.ensures.ghosts;
  flux_part = leaf_more c.args.tree.now c.args.size c.loop-leaf.leaf coarser_in c.args.fluxes.now c.loop-leaf.fluxes c.count_leaf.new.fluxes
      c.loop-leaf.invariant.flux_part c.count_leaf.ensures.fluxes;
}
