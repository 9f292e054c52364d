use Rattle.flux_correct.proofs.FaceBoxes.{few_faces}
use Rattle.flux_correct.proofs.side_faces.coarse_extents.Goals as goal

pub returns-clause-extents : goal.returns-clause-extents
returns-clause-extents c = c.covered_faces.ensures.region.extents

pub returns-clause-few : goal.returns-clause-few
returns-clause-few c = few_faces c.args.layout.now c.args.axis c.covered_faces.result c.args.layout.now.sound c.requires c.covered_faces.ensures.lies
