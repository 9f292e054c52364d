use Rattle.std.proofs.Common.{ℕ, List, length, ◌∙◌, ap, sym, subst, arith}
use Rattle.block_layout.specs.Indices.{count_of}
use Rattle.restrict_prolong.specs.Refined.{refined}
use Rattle.restrict_prolong.specs.Boxes.{AreFactors}
use Rattle.restrict_prolong.proofs.Wholes.{whole_in_itself}
use Rattle.flux_correct.specs.Sums.{coarse_extents}
use Rattle.flux_correct.proofs.FaceBoxes.{face_factors_are, faces_fit_as, refined_faces}
use Rattle.flux_correct.proofs.Gathered.{gathered, sums_small}
use Rattle.flux_correct.proofs.gathering.write_sums.Goals as goal

pub restrict_box-requires-clause-factors : goal.restrict_box-requires-clause-factors
restrict_box-requires-clause-factors c = subst AreFactors (sym c.face_factors-each.ensures) (face_factors_are c.args.layout.now.dims c.args.side.axis (omega (arith, c.args.layout.now.sound.most)))

pub restrict_box-requires-clause-from : goal.restrict_box-requires-clause-from
restrict_box-requires-clause-from c =
    let l = c.args.layout.now in
    faces_fit_as l c.args.side.axis (length c.args.list.now) c.side_faces-region.result (refined c.face_factors-each.result c.coarse_extents-extents.result) c.faces_box-from_box.result l.sound c.requires.axis c.side_faces-region.ensures.lies c.requires.list
    (c.side_faces-region.ensures.region.extents ∙ sym (refined_faces l c.args.side.axis c.args.side.high l.sound c.requires.axis)
    ∙ ap (λ (f : List ℕ). refined f (coarse_extents l c.args.side.axis)) (sym c.face_factors-each.ensures) ∙ ap (refined c.face_factors-each.result) (sym c.coarse_extents-extents.ensures.extents))
    c.faces_box-from_box.ensures

pub restrict_box-requires-clause-into : goal.restrict_box-requires-clause-into
restrict_box-requires-clause-into c =
    rw c.whole-into_box.ensures (whole_in_itself c.coarse_extents-extents.result (length c.args.sums.now) (c.requires.sums ∙ ap count_of (sym c.coarse_extents-extents.ensures.extents)))

pub restrict_box-requires-clause-small : goal.restrict_box-requires-clause-small
restrict_box-requires-clause-small c =
    sums_small c.args.layout.now c.args.side.axis c.args.side.high c.args.list.now c.coarse_extents-extents.result c.face_factors-each.result c.side_faces-region.result.low c.faces_box-from_box.result
    c.coarse_extents-extents.ensures.extents c.face_factors-each.ensures c.side_faces-region.ensures.region.low c.faces_box-from_box.ensures c.requires.small

pub returns : goal.returns
returns c =
    gathered c.args.layout.now c.args.side.axis c.args.side.high c.args.list.now c.restrict_box.new.into c.coarse_extents-extents.result c.face_factors-each.result c.side_faces-region.result.low c.faces_box-from_box.result c.whole-into_box.result
    c.coarse_extents-extents.ensures.extents c.face_factors-each.ensures c.side_faces-region.ensures.region.low c.faces_box-from_box.ensures c.whole-into_box.ensures (c.restrict_box.auto.into ∙ c.requires.sums) c.restrict_box.ensures.inside
