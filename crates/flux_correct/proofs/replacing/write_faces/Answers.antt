use Rattle.std.proofs.Common.{length, ◌∙◌, ap, sym}
use Rattle.block_layout.specs.Indices.{count_of}
use Rattle.restrict_prolong.proofs.Wholes.{whole_in_itself}
use Rattle.flux_correct.proofs.FaceBoxes.{faces_fit_as}
use Rattle.flux_correct.proofs.Gathered.{corrected, read_most}
use Rattle.flux_correct.proofs.replacing.write_faces.Goals as goal

pub write_box-requires-clause-from : goal.write_box-requires-clause-from
write_box-requires-clause-from c =
    rw c.whole-from_box.ensures (whole_in_itself c.coarse_extents-extents.result (length c.args.sums.now) (c.requires.sums ∙ ap count_of (sym c.coarse_extents-extents.ensures.extents)))

pub write_box-requires-clause-small : goal.write_box-requires-clause-small
write_box-requires-clause-small c = read_most c.args.sums.now (λ k. (c.type_inv.sums k).fits)

pub write_box-requires-clause-into : goal.write_box-requires-clause-into
write_box-requires-clause-into c =
    faces_fit_as c.args.layout.now c.args.side.axis (length c.args.list.now) c.covered_faces-region.result c.coarse_extents-extents.result c.faces_box-into_box.result c.args.layout.now.sound c.requires.axis c.covered_faces-region.ensures.lies
    c.requires.list (c.covered_faces-region.ensures.region.extents ∙ sym c.coarse_extents-extents.ensures.extents) c.faces_box-into_box.ensures

pub returns : goal.returns
returns c =
    corrected c.args.layout.now c.args.side.axis c.args.side.high c.args.half c.args.sums.now c.args.list.now c.write_box.new.into c.coarse_extents-extents.result c.covered_faces-region.result c.whole-from_box.result c.faces_box-into_box.result
    c.coarse_extents-extents.ensures.extents c.covered_faces-region.ensures.region c.whole-from_box.ensures c.faces_box-into_box.ensures c.write_box.ensures.inside c.write_box.ensures.outside
