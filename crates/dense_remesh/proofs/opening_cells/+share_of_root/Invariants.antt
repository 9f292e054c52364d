use Rattle.dense_remesh.proofs.opening_cells.+share_of_root.Given as goal

abbrev pub decreases-share_of_root : goal.decreases-share_of_root
decreases-share_of_root l = l.level
