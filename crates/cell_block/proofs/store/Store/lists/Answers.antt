use Rattle.cell_block.proofs.KeptStates.{placed_shape}
use Rattle.cell_block.proofs.store.Store.lists.Goals as goal

pub returns-clause-kept : goal.returns-clause-kept
returns-clause-kept c =
    let i = c.self.inside in
    placed_shape i.shelves i.buffers c.args.self.now c.self.view_is c.count.ensures.kept
