use Rattle.ghost_laws.proofs.Ghosts as ghosts
use Rattle.ghost_laws.proofs.laws.ghost_look_laws.Goals as goal

pub returns-clause-outside : goal.returns-clause-outside
returns-clause-outside c = ghosts.outside_seen

pub returns-clause-same : goal.returns-clause-same
returns-clause-same c = ghosts.same_seen

pub returns-clause-finer : goal.returns-clause-finer
returns-clause-finer c = ghosts.finer_seen

pub returns-clause-coarser : goal.returns-clause-coarser
returns-clause-coarser c = ghosts.coarser_seen
