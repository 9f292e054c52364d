use Rattle.std.proofs.Common.{◌+◌, ◌<◌, ◌≤◌, map, min, slice_index, slice_set, subst, sym, arith, refl, Some}
use Rattle.std.proofs.lemmas.List.{get_or_read}
use Rattle.cell_block.specs.Partitions.{OnShelves}
use Rattle.cell_block.specs.Store.{AreKept, Placed, room_in}
use Rattle.cell_block.proofs.KeptChanges.{added, spares_less}
use Rattle.cell_block.proofs.KeptStates.{count_few, has_room, key_absent, value_came}
use Rattle.cell_block.proofs.store.Store.add.Goals as goal

pub insert_reserved-key-requires : goal.insert_reserved-key-requires
insert_reserved-key-requires c =
    let i = c.self.inside in
    has_room i.shelves i.buffers _ c.args.self.now c.self.view_is c.requires.room

pub allocate-requires-clause-absent : goal.allocate-requires-clause-absent
allocate-requires-clause-absent c =
    let i = c.self.inside in
    key_absent i.shelves i.buffers c.args.at c.args.self.now c.self.view_is c.self.invariant.tied c.requires.absent

pub overflow_add-index_mut : goal.overflow_add-index_mut
overflow_add-index_mut c =
    let i = c.self.inside in
    let field : c.args.at.field < i.shelves.fields = subst (λ (v : Placed). c.args.at.field < v.fields) (sym c.self.view_is) c.requires.field in
    let read = get_or_read i.counts.items c.args.at.field c.index_mut.result.now (omega (arith, field, c.self.invariant.fields)) c.index_mut.ensures.value 0 in
    omega (arith, read, c.self.invariant.counted c.args.at.field field, count_few i.shelves c.args.at.field c.count.ensures.kept)

pub invariant_of-self : goal.invariant_of-self
invariant_of-self c =
    let i = c.self.inside in
    let at = c.args.at in
    let field : at.field < i.shelves.fields = subst (λ (v : Placed). at.field < v.fields) (sym c.self.view_is) c.requires.field in
    let block : at.block < i.shelves.leaves = subst (λ (v : Placed). at.block < v.leaves) (sym c.self.view_is) c.requires.block in
    let read = get_or_read i.counts.items at.field c.index_mut.result.now (omega (arith, field, c.self.invariant.fields)) c.index_mut.ensures.value 0 in
    let absent = key_absent i.shelves i.buffers at c.args.self.now c.self.view_is c.self.invariant.tied c.requires.absent in
    let n = c.index_mut.result.now + 1 in
    subst (λ (s : OnShelves). AreKept s c.insert_reserved-key.new.self (slice_set i.counts.items at.field n)) (sym c.allocate.ensures.allocated)
    (added i.shelves i.buffers c.insert_reserved-key.new.self i.counts.items c.allocate.new.self.spares at c.insert_reserved-key.result n _ c.count.ensures.kept c.self.invariant
    (record { block = block; field = field }) absent c.insert_reserved-key.ensures.was_vacant c.insert_reserved-key.ensures.updates refl (omega (arith, read))).are

pub returns-clause-added : goal.returns-clause-added
returns-clause-added c =
    let i = c.self.inside in
    let at = c.args.at in
    let field : at.field < i.shelves.fields = subst (λ (v : Placed). at.field < v.fields) (sym c.self.view_is) c.requires.field in
    let block : at.block < i.shelves.leaves = subst (λ (v : Placed). at.block < v.leaves) (sym c.self.view_is) c.requires.block in
    let read = get_or_read i.counts.items at.field c.index_mut.result.now (omega (arith, field, c.self.invariant.fields)) c.index_mut.ensures.value 0 in
    let absent = key_absent i.shelves i.buffers at c.args.self.now c.self.view_is c.self.invariant.tied c.requires.absent in
    let n = c.index_mut.result.now + 1 in
    let came = added i.shelves i.buffers c.insert_reserved-key.new.self i.counts.items c.allocate.new.self.spares at c.insert_reserved-key.result n _ c.count.ensures.kept c.self.invariant
    (record { block = block; field = field }) absent c.insert_reserved-key.ensures.was_vacant c.insert_reserved-key.ensures.updates refl (omega (arith, read)) in
    value_came i.shelves c.allocate.new.self i.buffers c.insert_reserved-key.new.self (slice_set i.counts.items at.field n) at (Some c.insert_reserved-key.result) _ c.args.self.now c.self.view_is c.allocate.ensures.allocated came

pub returns-clause-spares : goal.returns-clause-spares
returns-clause-spares c = λ list.
    let i = c.self.inside in
    let new = map (min (room_in c.insert_reserved-key.new.self)) c.allocate.new.self.spares in
    subst (λ (v : Placed). slice_index v.spares list ≤ slice_index new list + 1) c.self.view_is
    (spares_less (room_in i.buffers) (room_in c.insert_reserved-key.new.self) 1 i.shelves.spares c.allocate.new.self.spares (omega (arith, c.insert_reserved-key.ensures.len, c.insert_reserved-key.ensures.capacity)) c.allocate.ensures.spares list)
