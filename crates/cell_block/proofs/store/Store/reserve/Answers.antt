use Rattle.std.proofs.Common.{◌+◌, ◌≤◌, map, min, slice_index, subst, arith, ℕ}
use Rattle.cell_block.specs.Store.{Placed, room_in}
use Rattle.cell_block.proofs.KeptChanges.{spares_less}
use Rattle.cell_block.proofs.KeptStates.{roomier}
use Rattle.cell_block.proofs.store.Store.reserve.Goals as goal

pub returns-in_err-reserve-clause-grown : goal.returns-in_err-reserve-clause-grown
returns-in_err-reserve-clause-grown c = λ other.
    let i = c.self.inside in
    let new = c.reserve.new.self in
    let spares = i.shelves.spares in
    let each : (list : ℕ) → slice_index spares list ≤ slice_index spares list + 0 = λ list. omega arith in
    subst (λ (v : Placed). slice_index v.spares other ≤ slice_index (map (min (room_in new)) spares) other) c.self.view_is
    (omega (arith, spares_less (room_in i.buffers) (room_in new) 0 spares spares (roomier i.buffers new c.reserve.ensures.rest_kept c.reserve.ensures.capacity) each other))

pub returns-clause-grown : goal.returns-clause-grown
returns-clause-grown c = λ other.
    let i = c.self.inside in
    let new = c.reserve.new.self in
    let spares = i.shelves.spares in
    let spares' = c.reserve-2.new.self.spares in
    let each : (list : ℕ) → slice_index spares list ≤ slice_index spares' list + 0 = λ list. (let one = c.reserve-2.ensures.grown list in omega (arith, one)) in
    subst (λ (v : Placed). slice_index v.spares other ≤ slice_index (map (min (room_in new)) spares') other) c.self.view_is
    (omega (arith, spares_less (room_in i.buffers) (room_in new) 0 spares spares' (roomier i.buffers new c.reserve.ensures.rest_kept c.reserve.ensures.capacity) each other))
