use Rattle.std.proofs.Common.{arith}
use Rattle.react_kernel.specs.BlockSteps.{with_total}
use Rattle.react_kernel.proofs.Scattered.{all_scattered}
use Rattle.react_kernel.proofs.cell.scatter.Goals as goal

pub returns : goal.returns
returns c =
    let l = c.loop-buf in
    all_scattered (with_total c.args.place c.args.cell.now) c.args.bufs.now l.bufs l.buf-index l.invariant.count l.invariant.done (omega (arith, c.loop-buf-test.false))
