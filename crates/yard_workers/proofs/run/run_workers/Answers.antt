use Rattle.std.proofs.Common.{◌∙◌, ℕ, List, ap, subst, arith}
use Rattle.std.specs.List.{All}
use Rattle.turn_yard.specs.Yard.{YardState, IsOfSeat}
use Rattle.yard_workers.specs.Machine.{Was}
use Rattle.yard_workers.proofs.Runs.{done_at_end, slice_ended}
use Rattle.yard_workers.proofs.run.run_workers.Goals as goal

pub collected-done-requires-clause-ended : goal.collected-done-requires-clause-ended
collected-done-requires-clause-ended g c κs within =
    let yard = c.seated.new.yard in
    let workers = c.in_ok-workers.workers in
    slice_ended (g.M.Machine.complete yard.origin) yard (λ w. w.seat) (λ w. w.end) workers.items c.as_mut_slice.result.now c.work_all.new.workers workers.len c.in_ok-seats.seats.items
    c.as_mut_slice.ensures.value (let o = workers.ok.0 in omega arith) c.work_all.ensures.count
    c.in_ok-seats.ensures.items c.in_ok-workers.ensures.workers c.work_all.ensures.each

pub returns-clause-seats : goal.returns-clause-seats
returns-clause-seats g c =
    subst (λ (n : ℕ). All (IsOfSeat n) (g.M.Entries.entries c.close-machine.result.machine)) (ap (λ (y : YardState). y.made) c.in_ok-workers.ensures.yard) c.close-machine.ensures.all

pub returns-clause-done : goal.returns-clause-done
returns-clause-done g c some =
    let yard = c.seated.new.yard in
    let history = g.M.Entries.entries c.close-machine.result.machine in
    subst (λ (o : List ℕ). Was (g.M.Machine.complete o) history) (ap (λ (y : YardState). y.origin) c.in_ok-workers.ensures.yard ∙ c.in_ok-yard.ensures.origin)
    (done_at_end (g.M.Machine.complete yard.origin) history (g.M.Entries.marks c.close-machine.result.machine) c.collected-done.new.seats.items c.close-machine.ensures.seats (c.collected-done.ensures.done some))
