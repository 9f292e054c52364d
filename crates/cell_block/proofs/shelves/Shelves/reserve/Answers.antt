use Rattle.std.proofs.Common.{◌≡◌, ◌∙◌, ◌<◌, ◌≤◌, ap, map, slice_index, slice_set, subst, sym, arith, ℕ}
use Rattle.std.specs.Prelude.{OnOk}
use Rattle.std.proofs.lemmas.List.{get_or_read, get_or-map, get_or-set_same, length-set}
use Rattle.alloc_epochs.specs.Shelf.{Shelved}
use Rattle.cell_block.specs.Partitions.{OnShelves, lists_of, no_shelf}
use Rattle.cell_block.proofs.PartitionChanges.{spares_put}
use Rattle.cell_block.proofs.PartitionLists.{IsRoomier, roomier_value}
use Rattle.cell_block.proofs.shelves.Shelves.reserve.Goals as goal

pub returns-clause-rest : goal.returns-clause-rest
returns-clause-rest c =
    let i = c.self.inside in
    let list = c.args.list in
    let few : list < lists_of i.size i.leaves = subst (λ (s : OnShelves). list < lists_of s.size s.leaves) (sym c.self.view_is) c.requires in
    let read = get_or_read i.shelves.items list c.index_mut.result.now (omega (arith, c.self.invariant.count, few)) c.index_mut.ensures.value no_shelf in
    roomier_value i.size i.leaves i.fields i.shelves.items list c.reserve.new.self c.args.self.now c.self.view_is c.self.invariant (omega (arith, c.self.invariant.count, few))
    (subst (λ (s : Shelved). IsRoomier s c.reserve.new.self) read (record { rest = c.reserve.ensures.rest }))

pub returns-clause-room : goal.returns-clause-room
returns-clause-room c =
    let i = c.self.inside in
    let list = c.args.list in
    let new = c.reserve.new.self in
    let few : list < lists_of i.size i.leaves = subst (λ (s : OnShelves). list < lists_of s.size s.leaves) (sym c.self.view_is) c.requires in
    let put : slice_index (map (λ (s : Shelved). s.spare) (slice_set i.shelves.items list new)) list ≡ new.spare =
    get_or-map (λ (s : Shelved). s.spare) (slice_set i.shelves.items list new) list no_shelf 0 (omega (arith, c.self.invariant.count, few, length-set i.shelves.items list new))
    ∙ ap (λ (s : Shelved). s.spare) (get_or-set_same i.shelves.items list new no_shelf (omega (arith, c.self.invariant.count, few))) in
    subst (λ (n : ℕ). OnOk c.reserve.result (c.args.more ≤ n)) (sym put) c.reserve.ensures.room

pub returns-clause-grown : goal.returns-clause-grown
returns-clause-grown c = λ other.
    let i = c.self.inside in
    let list = c.args.list in
    let new = c.reserve.new.self in
    let few : list < lists_of i.size i.leaves = subst (λ (s : OnShelves). list < lists_of s.size s.leaves) (sym c.self.view_is) c.requires in
    let read = get_or_read i.shelves.items list c.index_mut.result.now (omega (arith, c.self.invariant.count, few)) c.index_mut.ensures.value no_shelf in
    let all = map (λ (s : Shelved). s.spare) (slice_set i.shelves.items list new) in
    subst (λ (s : OnShelves). slice_index s.spares other ≤ slice_index all other) c.self.view_is
    (omega (arith, spares_put i.shelves.items list 0 other new (omega (arith, c.self.invariant.count, few)) (omega (arith, ap (λ (s : Shelved). s.spare) read, c.reserve.ensures.grown))))
