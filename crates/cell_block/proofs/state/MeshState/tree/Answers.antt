use Rattle.std.proofs.Common.{subst}
use Rattle.std.specs.Arc.{arc_value}
use Rattle.block_tree.specs.Blocks.{IsBlockTree}
use Rattle.cell_block.proofs.Buffers.{is_stored}
use Rattle.cell_block.proofs.state.MeshState.tree.Goals as goal

pub returns-clause-kept : goal.returns-clause-kept
returns-clause-kept c =
    let i = c.self.inside in
    is_stored (arc_value i.tree) i.layout i.store i.counters.items c.args.self.now c.self.view_is (subst IsBlockTree c.deref.ensures c.len.ensures.kept) c.lists.ensures.kept c.self.invariant
