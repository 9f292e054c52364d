use Rattle.std.proofs.Common.{ℕ, ◌*◌, ◌∙◌, List, length, slice_index, ap, arith}
use Rattle.transport_kernel.proofs.SideSums.{rows_fit, side_sizes, sum_is}
use Rattle.transport_kernel.proofs.sums.passed.Goals as goal

pub box_sum-requires-clause-fits : goal.box_sum-requires-clause-fits
box_sum-requires-clause-fits c =
    rw (c.first_at-start.ensures, c.face_widths-widths.ensures.value, c.extents_at-extents.ensures)
    (rows_fit c.args.layout.now c.args.side.axis c.args.side.high (length c.args.list.now) c.args.layout.now.sound c.requires.axis c.requires.faces)

pub box_sum-requires-clause-some : goal.box_sum-requires-clause-some
box_sum-requires-clause-some c = rw c.extents_at-extents.ensures ((side_sizes c.args.layout.now c.args.side.axis c.args.layout.now.sound).1)

pub box_sum-requires-clause-short : goal.box_sum-requires-clause-short
box_sum-requires-clause-short c = rw c.extents_at-extents.ensures ((side_sizes c.args.layout.now c.args.side.axis c.args.layout.now.sound).2)

pub box_sum-requires-clause-few : goal.box_sum-requires-clause-few
box_sum-requires-clause-few c = rw c.extents_at-extents.ensures ((side_sizes c.args.layout.now c.args.side.axis c.args.layout.now.sound).3)

pub box_sum-requires-clause-planes : goal.box_sum-requires-clause-planes
box_sum-requires-clause-planes c = rw c.extents_at-extents.ensures ((side_sizes c.args.layout.now c.args.side.axis c.args.layout.now.sound).4)

pub returns : goal.returns
returns c =
    c.box_sum.ensures
    ∙ sum_is c.args.layout.now c.args.side.axis c.args.side.high c.args.list.now c.first_at-start.result (slice_index c.face_widths-widths.result 0) (slice_index c.face_widths-widths.result 0 * slice_index c.face_widths-widths.result 1) c.extents_at-extents.result
    (omega (arith, c.requires.axis, c.args.layout.now.sound.most)) c.first_at-start.ensures (ap (λ (v : List ℕ). slice_index v 0) c.face_widths-widths.ensures.value)
    (ap (λ (v : List ℕ). slice_index v 0 * slice_index v 1) c.face_widths-widths.ensures.value) c.extents_at-extents.ensures
