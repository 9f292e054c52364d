use Rattle.std.proofs.Common.{◌+◌, ◌-◌, ◌≤◌, map, min, slice_index, slice_set, subst, sym, arith, None, ℕ}
use Rattle.std.proofs.lemmas.List.{get_or_read}
use Rattle.cell_block.specs.Partitions.{OnShelves}
use Rattle.cell_block.specs.Store.{AreKept, Placed, room_in}
use Rattle.cell_block.proofs.KeptPlaces.{key_place}
use Rattle.cell_block.proofs.KeptChanges.{released, spares_less}
use Rattle.cell_block.proofs.KeptStates.{count_some, value_came}
use Rattle.cell_block.proofs.store.Store.release.Goals as goal

pub overflow_sub-index_mut : goal.overflow_sub-index_mut
overflow_sub-index_mut c =
    let i = c.self.inside in
    let at = c.args.at in
    let place = key_place i.shelves at c.release-key.result c.count.ensures.kept c.release-key.ensures.key in
    let read = get_or_read i.counts.items at.field c.index_mut.result.now (omega (arith, place.field, c.self.invariant.fields)) c.index_mut.ensures.value 0 in
    omega (arith, read, c.self.invariant.counted at.field place.field, count_some i.shelves at c.release-key.result c.count.ensures.kept place c.release-key.ensures.key)

pub invariant_of-self : goal.invariant_of-self
invariant_of-self c =
    let i = c.self.inside in
    let at = c.args.at in
    let place = key_place i.shelves at c.release-key.result c.count.ensures.kept c.release-key.ensures.key in
    let read = get_or_read i.counts.items at.field c.index_mut.result.now (omega (arith, place.field, c.self.invariant.fields)) c.index_mut.ensures.value 0 in
    let some = count_some i.shelves at c.release-key.result c.count.ensures.kept place c.release-key.ensures.key in
    let n = c.index_mut.result.now - 1 in
    subst (λ (s : OnShelves). AreKept s c.remove-kept.new.self (slice_set i.counts.items at.field n)) (sym c.release-key.ensures.freed)
    (released i.shelves i.buffers c.remove-kept.new.self i.counts.items c.release-key.new.self.spares at c.release-key.result n c.count.ensures.kept c.self.invariant
    place c.release-key.ensures.key c.remove-kept.ensures.updates (omega (arith, read, some, c.self.invariant.counted at.field place.field))).are

pub returns-clause-freed : goal.returns-clause-freed
returns-clause-freed c =
    let i = c.self.inside in
    let at = c.args.at in
    let place = key_place i.shelves at c.release-key.result c.count.ensures.kept c.release-key.ensures.key in
    let read = get_or_read i.counts.items at.field c.index_mut.result.now (omega (arith, place.field, c.self.invariant.fields)) c.index_mut.ensures.value 0 in
    let some = count_some i.shelves at c.release-key.result c.count.ensures.kept place c.release-key.ensures.key in
    let n = c.index_mut.result.now - 1 in
    let came = released i.shelves i.buffers c.remove-kept.new.self i.counts.items c.release-key.new.self.spares at c.release-key.result n c.count.ensures.kept c.self.invariant
    place c.release-key.ensures.key c.remove-kept.ensures.updates (omega (arith, read, some, c.self.invariant.counted at.field place.field)) in
    value_came i.shelves c.release-key.new.self i.buffers c.remove-kept.new.self (slice_set i.counts.items at.field n) at None _ c.args.self.now c.self.view_is c.release-key.ensures.freed came

pub returns-clause-spares : goal.returns-clause-spares
returns-clause-spares c = λ list.
    let i = c.self.inside in
    let new = map (min (room_in c.remove-kept.new.self)) c.release-key.new.self.spares in
    let each = λ (k : ℕ). (let one = c.release-key.ensures.spares k in let more : slice_index i.shelves.spares k ≤ slice_index c.release-key.new.self.spares k + 0 = omega (arith, one) in more) in
    subst (λ (v : Placed). slice_index v.spares list ≤ slice_index new list) c.self.view_is
    (omega (arith, spares_less (room_in i.buffers) (room_in c.remove-kept.new.self) 0 i.shelves.spares c.release-key.new.self.spares (omega (arith, c.remove-kept.ensures.len, c.remove-kept.ensures.capacity)) each list))
