use Rattle.std.proofs.Common.{◌∙◌, ap, subst, sym, arith, None, Option, ℕ, is_some}
use Rattle.alloc_epochs.specs.Shelf.{Shelved}
use Rattle.cell_block.specs.Partitions.{IsChanged, IsPlace, OnShelves}
use Rattle.cell_block.proofs.Partitions.{changed_are, in_list, is_ready, key_within}
use Rattle.cell_block.proofs.PartitionChanges.{changed_value, spares_changed}
use Rattle.cell_block.proofs.shelves.Shelves.release.Goals as goal

pub index_mut-requires : goal.index_mut-requires
index_mut-requires c =
    let i = c.self.inside in
    let within = key_within i.size i.leaves i.fields i.shelves.items c.args.at c.args.self.now c.self.view_is c.self.invariant c.requires.present in
    let place = subst (λ (s : OnShelves). IsPlace s c.args.at) (sym c.self.view_is) within in
    omega (arith, c.self.invariant.count, (in_list i.size i.leaves c.args.at.block c.self.invariant.some place.block).list)

pub release_from-requires : goal.release_from-requires
release_from-requires c =
    let i = c.self.inside in
    let within = key_within i.size i.leaves i.fields i.shelves.items c.args.at c.args.self.now c.self.view_is c.self.invariant c.requires.present in
    let ready = is_ready i.size i.leaves i.fields i.shelves.items c.args.at c.index_mut.result.now c.args.self.now c.self.view_is c.self.invariant within c.index_mut.ensures.value in
    record {
      present = ap (λ (o : Option ℕ). is_some o) ready.key ∙ c.requires.present;
      epoch = omega (arith, ready.epoch, c.requires.epoch);
    }

pub invariant_of-self : goal.invariant_of-self
invariant_of-self c =
    let i = c.self.inside in
    let within = key_within i.size i.leaves i.fields i.shelves.items c.args.at c.args.self.now c.self.view_is c.self.invariant c.requires.present in
    let ready = is_ready i.size i.leaves i.fields i.shelves.items c.args.at c.index_mut.result.now c.args.self.now c.self.view_is c.self.invariant within c.index_mut.ensures.value in
    let place = subst (λ (s : OnShelves). IsPlace s c.args.at) (sym c.self.view_is) within in
    changed_are i.size i.leaves i.fields i.shelves.items c.args.at None c.release_from.new.shelf c.self.invariant place.block place.field
    (subst (λ (s : Shelved). IsChanged s c.release_from.new.shelf c.args.at None) ready.read c.release_from.ensures.changed)

pub returns-clause-key : goal.returns-clause-key
returns-clause-key c =
    let i = c.self.inside in
    let within = key_within i.size i.leaves i.fields i.shelves.items c.args.at c.args.self.now c.self.view_is c.self.invariant c.requires.present in
    let ready = is_ready i.size i.leaves i.fields i.shelves.items c.args.at c.index_mut.result.now c.args.self.now c.self.view_is c.self.invariant within c.index_mut.ensures.value in
    sym ready.key ∙ c.release_from.ensures.key

pub returns-clause-freed : goal.returns-clause-freed
returns-clause-freed c =
    let i = c.self.inside in
    let within = key_within i.size i.leaves i.fields i.shelves.items c.args.at c.args.self.now c.self.view_is c.self.invariant c.requires.present in
    let ready = is_ready i.size i.leaves i.fields i.shelves.items c.args.at c.index_mut.result.now c.args.self.now c.self.view_is c.self.invariant within c.index_mut.ensures.value in
    changed_value i.size i.leaves i.fields i.shelves.items c.args.at None c.release_from.new.shelf c.args.self.now c.self.view_is c.self.invariant within
    (subst (λ (s : Shelved). IsChanged s c.release_from.new.shelf c.args.at None) ready.read c.release_from.ensures.changed)

pub returns-clause-spares : goal.returns-clause-spares
returns-clause-spares c = λ list.
    let i = c.self.inside in
    let within = key_within i.size i.leaves i.fields i.shelves.items c.args.at c.args.self.now c.self.view_is c.self.invariant c.requires.present in
    let ready = is_ready i.size i.leaves i.fields i.shelves.items c.args.at c.index_mut.result.now c.args.self.now c.self.view_is c.self.invariant within c.index_mut.ensures.value in
    let place = subst (λ (s : OnShelves). IsPlace s c.args.at) (sym c.self.view_is) within in
    omega (arith, spares_changed i.size i.leaves i.fields i.shelves.items c.args.at 0 list c.index_mut.result.now c.release_from.new.shelf c.args.self.now c.self.view_is c.self.invariant place.block ready.read (omega (arith, c.release_from.ensures.spare)))
