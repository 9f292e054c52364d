use Rattle.due_counts.proofs.Sided.{can_fluxes, can_ghosts, few_fluxes, few_ghosts, side_fluxes, side_ghosts}
use Rattle.due_counts.proofs.walk.count_side.Goals as goal

pub count_behind-requires-clause-ghosts : goal.count_behind-requires-clause-ghosts
count_behind-requires-clause-ghosts c = can_ghosts c.args.tree.now c.args.size c.args.leaf c.args.side.axis c.args.side.high _ c.requires.size c.requires.leaf
    c.behind-behind.ensures c.args.ghosts.now c.requires.ghosts

pub count_behind-requires-clause-fluxes : goal.count_behind-requires-clause-fluxes
count_behind-requires-clause-fluxes c = can_fluxes c.args.tree.now c.args.size c.args.leaf c.args.side.axis c.args.side.high _ c.requires.size c.requires.leaf
    c.behind-behind.ensures c.args.fluxes.now c.requires.fluxes

pub returns-clause-ghosts : goal.returns-clause-ghosts
returns-clause-ghosts c = side_ghosts c.args.tree.now c.args.size c.args.leaf c.args.side.axis c.args.side.high _ c.requires.size c.requires.leaf
    c.behind-behind.ensures c.args.ghosts.now c.count_behind.new.ghosts c.count_behind.ensures.ghosts

pub returns-clause-fluxes : goal.returns-clause-fluxes
returns-clause-fluxes c = side_fluxes c.args.tree.now c.args.size c.args.leaf c.args.side.axis c.args.side.high _ c.requires.size c.requires.leaf
    c.behind-behind.ensures c.args.fluxes.now c.count_behind.new.fluxes c.count_behind.ensures.fluxes

pub returns-clause-few : goal.returns-clause-few
returns-clause-few c = few_ghosts c.args.tree.now c.args.size c.args.leaf c.args.side.axis c.args.side.high

pub returns-clause-fewer : goal.returns-clause-fewer
returns-clause-fewer c = few_fluxes c.args.tree.now c.args.size c.args.leaf c.args.side.axis c.args.side.high
