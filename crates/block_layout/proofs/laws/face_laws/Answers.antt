use Rattle.block_layout.proofs.FaceNumbers.{faces_numbered}
use Rattle.block_layout.proofs.laws.face_laws.Goals as goal

pub returns : goal.returns
returns c = faces_numbered
