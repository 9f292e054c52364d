use Rattle.std.proofs.Common.{◌≡◌, ap, refl, inl, ◌+◌, length, List, sum, arith}
use Rattle.field_bufs.specs.declared.buf.FieldBuf.{FieldBuf}
use Rattle.react_kernel.specs.BlockSteps.{held_sum}
use Rattle.react_kernel.proofs.Cells.{apart_fresh, held_both, in_range_fresh, in_range_of, none_missing}
use Rattle.react_kernel.proofs.fresh.add_missing.Goals as goal

pub sum_over-requires-clause-small : goal.sum_over-requires-clause-small
sum_over-requires-clause-small c =
    let l = c.args.layout.now in
    let n = length c.args.cell.now in
    let whole = held_both c.args.bufs.now c.args.made.now.items c.args.cell.now c.requires.bufs.rise c.requires.made.rise
    (apart_fresh l c.args.fresh.block c.args.fresh.stamp n c.args.bufs.now c.args.made.now.items c.requires.made)
    (in_range_of l c.args.fresh.block n c.args.bufs.now c.requires.bufs) (in_range_fresh l c.args.fresh.block c.args.fresh.stamp n c.args.bufs.now c.args.made.now.items c.requires.made) in
    omega (arith, whole, c.requires.held, c.ranges.held.fits)

pub sum_over-requires-2-clause-small : goal.sum_over-requires-2-clause-small
sum_over-requires-2-clause-small c =
    let l = c.args.layout.now in
    let n = length c.args.cell.now in
    let same : held_sum c.deref.result.now c.args.cell.now ≡ held_sum c.args.made.now.items c.args.cell.now = ap (λ (b : List FieldBuf). held_sum b c.args.cell.now) c.deref.ensures.value in
    let whole = held_both c.args.bufs.now c.args.made.now.items c.args.cell.now c.requires.bufs.rise c.requires.made.rise
    (apart_fresh l c.args.fresh.block c.args.fresh.stamp n c.args.bufs.now c.args.made.now.items c.requires.made)
    (in_range_of l c.args.fresh.block n c.args.bufs.now c.requires.bufs) (in_range_fresh l c.args.fresh.block c.args.fresh.stamp n c.args.bufs.now c.args.made.now.items c.requires.made) in
    omega (arith, whole, same, c.requires.held, c.ranges.held.fits)

pub overflow_add-sum_over : goal.overflow_add-sum_over
overflow_add-sum_over c =
    let l = c.args.layout.now in
    let n = length c.args.cell.now in
    let same : held_sum c.deref.result.now c.args.cell.now ≡ held_sum c.args.made.now.items c.args.cell.now = ap (λ (b : List FieldBuf). held_sum b c.args.cell.now) c.deref.ensures.value in
    let whole = held_both c.args.bufs.now c.args.made.now.items c.args.cell.now c.requires.bufs.rise c.requires.made.rise
    (apart_fresh l c.args.fresh.block c.args.fresh.stamp n c.args.bufs.now c.args.made.now.items c.requires.made)
    (in_range_of l c.args.fresh.block n c.args.bufs.now c.requires.bufs) (in_range_fresh l c.args.fresh.block c.args.fresh.stamp n c.args.bufs.now c.args.made.now.items c.requires.made) in
    omega (arith, whole, same, c.requires.held, c.ranges.held.fits, c.sum_over.ensures, c.sum_over-2.ensures)

pub returns-then-sum_over-held-clause-room : goal.returns-then-sum_over-held-clause-room
returns-then-sum_over-held-clause-room c =
    let l = c.args.layout.now in
    let bufs = c.args.bufs.now in
    let made = c.args.made.now.items in
    let n = length c.args.cell.now in
    let same : held_sum c.deref.result.now c.args.cell.now ≡ held_sum made c.args.cell.now = ap (λ (b : List FieldBuf). held_sum b c.args.cell.now) c.deref.ensures.value in
    let all : held_sum bufs c.args.cell.now + held_sum made c.args.cell.now ≡ sum c.args.cell.now = omega (arith, c.sum_over.ensures, c.sum_over-2.ensures, c.if-sum_over-held.true, c.requires.held) in
    record {
      same_totals = λ f p. refl;
      room = λ f h some. none_missing bufs made c.args.cell.now f c.requires.bufs.rise c.requires.made.rise (apart_fresh l c.args.fresh.block c.args.fresh.stamp n bufs made c.requires.made)
          (in_range_of l c.args.fresh.block n bufs c.requires.bufs) (in_range_fresh l c.args.fresh.block c.args.fresh.stamp n bufs made c.requires.made) all h some;
      stays = λ f h. h;
      came = λ f h. inl h;
    }
