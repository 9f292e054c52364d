use Rattle.std.proofs.Common.{arith}
use Rattle.problem_set.specs.Rates.{box_total}
use Rattle.problem_set.proofs.RateLemmas.{sum_more}
use Rattle.problem_set.proofs.fitting.boxes_total.Goals as goal

pub loop-i-preserved : goal.loop-i-preserved
loop-i-preserved c = record {
  total = omega (arith, sum_more box_total c.args.boxes.now c.loop-i.i c.box_at.result.now c.box_at.ensures, c.box_total-sum.ensures.value, c.loop-i.invariant.total);
  bound = omega (arith, c.box_total-sum.ensures.most, c.loop-i.invariant.bound);
}
