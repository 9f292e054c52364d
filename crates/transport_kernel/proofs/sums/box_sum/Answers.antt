use Rattle.std.proofs.Common.{ℕ, ◌+◌, ◌*◌, ◌∙◌, ap, slice_index, arith}
use Rattle.transport_kernel.specs.Passed.{sum_below}
use Rattle.transport_kernel.proofs.SideSums.{one_more}
use Rattle.transport_kernel.proofs.sums.box_sum.Goals as goal

pub loop-z-preserved : goal.loop-z-preserved
loop-z-preserved c = record {
  value = ap (λ (v : ℕ). c.loop-z.sum + v) c.rows_sum-sum.ensures.value
      ∙ one_more c.loop-z.z (λ z. sum_below (slice_index c.args.extents 1) (λ y. sum_below (slice_index c.args.extents 0) (λ x. slice_index c.args.list.now (c.args.start + z * c.args.plane + y * c.args.step + x)))) c.loop-z.sum c.loop-z.invariant.value;
  most = omega (arith, c.loop-z.invariant.most, c.rows_sum-sum.ensures.most, c.requires.few);
}
