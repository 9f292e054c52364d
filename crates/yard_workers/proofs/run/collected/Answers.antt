use Rattle.std.proofs.Common.{rules, ◌≡◌, ◌+◌, ℕ, [], ap, arith}
use Rattle.yard_workers.proofs.Runs.{all_back, one_back}
use Rattle.yard_workers.proofs.run.collected.Goals as goal

pub loop-worker-preserved : goal.loop-worker-preserved
loop-worker-preserved g c =
    let room = c.loop-worker.invariant.1 in
    let popped = c.in-Some.ensures.cases in
    let pushed = c.push_reserved.ensures.len in
    let same = c.push_reserved.ensures.capacity in (
      one_back (g.M.Machine.complete c.args.yard.now.origin) c.args.yard.now (λ w. w.seat) (λ w. w.end) c.loop-worker.workers.items c.pop.new.self.items c.in-Some.worker c.loop-worker.seats.items
          c.push_reserved.new.self.items c.loop-worker.done (c.loop-worker.done + c.is_done-done.result) c.in-Some.ensures.items c.push_reserved.ensures.items
          (ap (λ (n : ℕ). c.loop-worker.done + n) c.is_done-done.ensures) c.loop-worker.invariant.0,
      omega arith,
    )

pub returns-clause-seats : goal.returns-clause-seats
returns-clause-seats g c =
    let none : c.loop-worker.workers.items ≡ [] = search rules in
    all_back (g.M.Machine.complete c.args.yard.now.origin) c.args.yard.now (λ w. w.seat) (λ w. w.end) c.loop-worker.workers.items c.loop-worker.seats.items c.loop-worker.done none c.loop-worker.invariant.0
