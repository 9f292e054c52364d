use Rattle.flux_correct.specs.Sums.{side_faces}
use Rattle.flux_correct.proofs.FaceBoxes.{beside_is, inside_faces}
use Rattle.flux_correct.proofs.side_faces.covered_faces.Goals as goal

pub returns-clause-region : goal.returns-clause-region
returns-clause-region c = beside_is c.args.layout.now c.args.side.axis c.args.half (side_faces c.args.layout.now c.args.side.axis c.args.side.high) c.side_faces.result c.beside_part.result c.side_faces.ensures.region c.beside_part.ensures.part

pub returns-clause-lies : goal.returns-clause-lies
returns-clause-lies c = inside_faces c.args.layout.now c.args.side.axis c.side_faces.result c.beside_part.result c.side_faces.ensures.lies c.beside_part.ensures.inside
