use Rattle.cell_block.proofs.Partitions.{on_shelves_shape}
use Rattle.cell_block.proofs.shelves.Shelves.count.Goals as goal

pub returns-clause-kept : goal.returns-clause-kept
returns-clause-kept c =
    let i = c.self.inside in
    on_shelves_shape i.size i.leaves i.fields i.shelves.items c.args.self.now c.self.view_is c.self.invariant
