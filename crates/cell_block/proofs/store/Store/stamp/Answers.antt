use Rattle.std.proofs.Common.{◌<◌, subst, sym}
use Rattle.cell_block.specs.Store.{Placed}
use Rattle.cell_block.proofs.Stamped.{room_for_stamp, stamped_are, stamped_value}
use Rattle.cell_block.proofs.store.Store.stamp.Goals as goal

pub stamp_block-requires : goal.stamp_block-requires
stamp_block-requires c =
    let i = c.self.inside in
    record {
      block = subst (λ (v : Placed). c.args.block < v.leaves) (sym c.self.view_is) c.requires.within;
      shape = c.count.ensures.kept;
      tied = c.self.invariant.tied;
      stamps = room_for_stamp i.shelves i.buffers c.args.block c.args.self.now c.self.view_is c.self.invariant.tied c.requires.stamps;
    }

pub invariant_of-self : goal.invariant_of-self
invariant_of-self c =
    let i = c.self.inside in
    stamped_are i.shelves i.buffers c.stamp_block.new.buffers i.counts.items c.args.block c.self.invariant c.stamp_block.ensures

pub returns : goal.returns
returns c =
    let i = c.self.inside in
    stamped_value i.shelves i.buffers c.stamp_block.new.buffers c.args.block c.args.self.now c.self.view_is c.count.ensures.kept c.self.invariant.tied c.stamp_block.ensures c.requires.within
