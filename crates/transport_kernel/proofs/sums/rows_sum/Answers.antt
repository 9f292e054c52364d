use Rattle.std.proofs.Common.{ℕ, ◌+◌, ◌*◌, ◌∙◌, ap, slice_index, arith}
use Rattle.transport_kernel.specs.Passed.{sum_below}
use Rattle.transport_kernel.proofs.SideSums.{one_more}
use Rattle.transport_kernel.proofs.sums.rows_sum.Goals as goal

pub loop-y-preserved : goal.loop-y-preserved
loop-y-preserved c = record {
  value = ap (λ (v : ℕ). c.loop-y.sum + v) c.row_sum-sum.ensures.value
      ∙ one_more c.loop-y.y (λ y. sum_below c.args.len (λ x. slice_index c.args.list.now (c.args.start + y * c.args.step + x))) c.loop-y.sum c.loop-y.invariant.value;
  most = omega (arith, c.loop-y.invariant.most, c.row_sum-sum.ensures.most, c.requires.short);
}
