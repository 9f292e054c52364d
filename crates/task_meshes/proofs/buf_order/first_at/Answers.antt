use Rattle.std.proofs.Common.{ℕ, ◌+◌, ◌-◌, ◌/◌, ◌<◌, length, ap, arith, sym, ◌∙◌}
use Rattle.field_bufs.specs.declared.buf.FieldBuf.{FieldBuf}
use Rattle.task_meshes.specs.Orders.{is_before, no_buf}
use Rattle.task_meshes.proofs.Lists.{same_item}
use Rattle.task_meshes.proofs.Ordered.{halve_down, halve_up}
use Rattle.task_meshes.proofs.buf_order.first_at.Goals as goal

pub halve-preserved-then-stands_before : goal.halve-preserved-then-stands_before
halve-preserved-then-stands_before c =
    let bufs = c.args.bufs.now in
    let middle : ℕ = c.halve.low + (c.halve.high - c.halve.low) / 2 in
    let above : middle < c.halve.high = omega arith in
    let few : middle < length bufs = omega (arith, c.halve.invariant.within) in
    let here = same_item bufs middle c.index-bufs-middle.result no_buf few c.index-bufs-middle.is in
    halve_up bufs c.args.block c.args.field c.halve.low c.halve.high middle c.requires c.halve.invariant (omega arith) above
    (ap (λ (u : FieldBuf). is_before u.block u.field c.args.block c.args.field) (sym here) ∙ sym c.stands_before.ensures ∙ c.if-stands_before.true)

pub halve-preserved : goal.halve-preserved
halve-preserved c =
    let bufs = c.args.bufs.now in
    let middle : ℕ = c.halve.low + (c.halve.high - c.halve.low) / 2 in
    let above : middle < c.halve.high = omega arith in
    let few : middle < length bufs = omega (arith, c.halve.invariant.within) in
    let here = same_item bufs middle c.index-bufs-middle.result no_buf few c.index-bufs-middle.is in
    halve_down bufs c.args.block c.args.field c.halve.low c.halve.high middle c.requires c.halve.invariant (omega arith) above
    (ap (λ (u : FieldBuf). is_before u.block u.field c.args.block c.args.field) (sym here) ∙ sym c.stands_before.ensures ∙ c.if-stands_before.false)
