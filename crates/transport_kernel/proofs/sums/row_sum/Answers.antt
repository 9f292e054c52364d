use Rattle.std.proofs.Common.{ℕ, ◌+◌, ◌∙◌, ap, slice_index, arith}
use Rattle.transport_kernel.proofs.SideSums.{one_more}
use Rattle.transport_kernel.proofs.sums.row_sum.Goals as goal

pub loop-x-preserved : goal.loop-x-preserved
loop-x-preserved c = record {
  value = ap (λ (v : ℕ). c.loop-x.sum + v) c.from-sum.ensures ∙ one_more c.loop-x.x (λ x. slice_index c.args.list.now (c.args.start + x)) c.loop-x.sum c.loop-x.invariant.value;
  most = omega (arith, c.loop-x.invariant.most, c.from-sum.ensures, c.type_inv.list (c.args.start + c.loop-x.x));
}
