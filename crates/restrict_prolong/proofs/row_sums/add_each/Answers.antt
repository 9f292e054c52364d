use Rattle.std.proofs.Common.{ℕ, ◌+◌, ◌<◌, length, get_or, arith}
use Rattle.restrict_prolong.proofs.Steps.{one_done, rest_stays}
use Rattle.restrict_prolong.proofs.row_sums.add_each.Goals as goal

pub loop-x-preserved : goal.loop-x-preserved
loop-x-preserved c =
    let lt : c.loop-x.x < length c.loop-x.into = omega arith in
    let here = c.loop-x.invariant.rest c.loop-x.x (omega arith) in
    record {
      done = one_done (λ (k : ℕ). get_or c.args.into.now k 0 + get_or c.args.from.now k 0) c.loop-x.x (get_or c.loop-x.into c.loop-x.x 0 + get_or c.args.from.now c.loop-x.x 0) c.loop-x.into lt (omega (arith, here)) c.loop-x.invariant.done;
      rest = rest_stays c.loop-x.x (get_or c.loop-x.into c.loop-x.x 0 + get_or c.args.from.now c.loop-x.x 0) c.loop-x.into c.args.into.now c.loop-x.invariant.rest;
    }
