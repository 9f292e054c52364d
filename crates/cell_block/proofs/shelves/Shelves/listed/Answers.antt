use Rattle.std.proofs.Common.{◌<◌, subst, sym, arith}
use Rattle.std.proofs.lemmas.List.{get_or_read}
use Rattle.alloc_epochs.specs.Shelf.{takes}
use Rattle.cell_block.specs.Partitions.{OnShelves, lists_of, no_shelf}
use Rattle.cell_block.proofs.PartitionLists.{listed_is}
use Rattle.cell_block.proofs.shelves.Shelves.listed.Goals as goal

pub returns : goal.returns
returns c =
    let i = c.self.inside in
    let list = c.args.list in
    let few : list < lists_of i.size i.leaves = subst (λ (s : OnShelves). list < lists_of s.size s.leaves) (sym c.self.view_is) c.requires.within in
    let read = get_or_read i.shelves.items list c.index.result.now (omega (arith, c.self.invariant.count, few)) c.index.ensures no_shelf in
    listed_is i.size i.leaves i.fields i.shelves.items list (takes c.args.fields.now.fields c.args.kind) c.index.result.now c.args.self.now c.listed.result c.self.view_is c.self.invariant (omega (arith, c.self.invariant.count, few)) read c.listed.ensures
