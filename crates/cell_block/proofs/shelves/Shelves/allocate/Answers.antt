use Rattle.std.proofs.Common.{◌∙◌, subst, sym, arith, Some}
use Rattle.alloc_epochs.specs.Shelf.{Shelved}
use Rattle.cell_block.specs.Partitions.{IsChanged, IsPlace, OnShelves}
use Rattle.cell_block.proofs.Partitions.{changed_are, is_ready}
use Rattle.cell_block.proofs.PartitionChanges.{changed_value, spares_changed}
use Rattle.cell_block.proofs.shelves.Shelves.allocate.Goals as goal

pub allocate_on-requires : goal.allocate_on-requires
allocate_on-requires c =
    let i = c.self.inside in
    let ready = is_ready i.size i.leaves i.fields i.shelves.items c.args.at c.index_mut.result.now c.args.self.now c.self.view_is c.self.invariant c.requires.within c.index_mut.ensures.value in
    record {
      on = ready.on;
      absent = ready.key ∙ c.requires.absent;
      room = omega (arith, ready.spare, c.requires.room);
      epoch = omega (arith, ready.epoch, c.requires.epoch);
    }

pub invariant_of-self : goal.invariant_of-self
invariant_of-self c =
    let i = c.self.inside in
    let ready = is_ready i.size i.leaves i.fields i.shelves.items c.args.at c.index_mut.result.now c.args.self.now c.self.view_is c.self.invariant c.requires.within c.index_mut.ensures.value in
    let place = subst (λ (s : OnShelves). IsPlace s c.args.at) (sym c.self.view_is) c.requires.within in
    changed_are i.size i.leaves i.fields i.shelves.items c.args.at (Some c.args.key) c.allocate_on.new.shelf c.self.invariant place.block place.field
    (subst (λ (s : Shelved). IsChanged s c.allocate_on.new.shelf c.args.at (Some c.args.key)) ready.read c.allocate_on.ensures.changed)

pub returns-clause-allocated : goal.returns-clause-allocated
returns-clause-allocated c =
    let i = c.self.inside in
    let ready = is_ready i.size i.leaves i.fields i.shelves.items c.args.at c.index_mut.result.now c.args.self.now c.self.view_is c.self.invariant c.requires.within c.index_mut.ensures.value in
    changed_value i.size i.leaves i.fields i.shelves.items c.args.at (Some c.args.key) c.allocate_on.new.shelf c.args.self.now c.self.view_is c.self.invariant c.requires.within
    (subst (λ (s : Shelved). IsChanged s c.allocate_on.new.shelf c.args.at (Some c.args.key)) ready.read c.allocate_on.ensures.changed)

pub returns-clause-spares : goal.returns-clause-spares
returns-clause-spares c = λ list.
    let i = c.self.inside in
    let ready = is_ready i.size i.leaves i.fields i.shelves.items c.args.at c.index_mut.result.now c.args.self.now c.self.view_is c.self.invariant c.requires.within c.index_mut.ensures.value in
    let place = subst (λ (s : OnShelves). IsPlace s c.args.at) (sym c.self.view_is) c.requires.within in
    spares_changed i.size i.leaves i.fields i.shelves.items c.args.at 1 list c.index_mut.result.now c.allocate_on.new.shelf c.args.self.now c.self.view_is c.self.invariant place.block ready.read c.allocate_on.ensures.spare
