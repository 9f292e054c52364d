use Rattle.dense_stage.proofs.each_leaf.leaf_pairs.Given as goal

abbrev pub ghost-leaf_fluxes : goal.ghost-leaf_fluxes
ghost-leaf_fluxes g a = g.x.lists
