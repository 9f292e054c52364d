use Rattle.std.proofs.Common.{◌/◌, ◌<◌, subst, sym, arith}
use Rattle.std.proofs.lemmas.List.{get_or_read}
use Rattle.cell_block.specs.Partitions.{OnShelves, no_shelf}
use Rattle.cell_block.proofs.Partitions.{in_list}
use Rattle.cell_block.proofs.PartitionLists.{next_on, none_on}
use Rattle.cell_block.proofs.shelves.Shelves.next_field.Goals as goal

pub returns-clause-found : goal.returns-clause-found
returns-clause-found c =
    let i = c.self.inside in
    let block = c.args.block in
    let within : block < i.leaves = subst (λ (s : OnShelves). block < s.leaves) (sym c.self.view_is) c.requires in
    let read = get_or_read i.shelves.items (block / i.size) c.index.result.now (omega (arith, c.self.invariant.count, (in_list i.size i.leaves block c.self.invariant.some within).list)) c.index.ensures no_shelf in
    next_on i.size i.leaves i.fields i.shelves.items block c.args.from c.index.result.now c.args.self.now c.next_field.result c.self.view_is c.self.invariant within read c.next_field.ensures.found

pub returns-clause-none : goal.returns-clause-none
returns-clause-none c =
    let i = c.self.inside in
    let block = c.args.block in
    let within : block < i.leaves = subst (λ (s : OnShelves). block < s.leaves) (sym c.self.view_is) c.requires in
    let read = get_or_read i.shelves.items (block / i.size) c.index.result.now (omega (arith, c.self.invariant.count, (in_list i.size i.leaves block c.self.invariant.some within).list)) c.index.ensures no_shelf in
    none_on i.size i.leaves i.fields i.shelves.items block c.args.from c.index.result.now c.args.self.now c.next_field.result c.self.view_is c.self.invariant within read c.next_field.ensures.none
