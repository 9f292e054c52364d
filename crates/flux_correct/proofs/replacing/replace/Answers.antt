use Rattle.std.proofs.Common.{◌∙◌, ap}
use Rattle.block_layout.specs.Indices.{count_of}
use Rattle.flux_correct.proofs.Gathered.{corrected_back, corrected_front}
use Rattle.flux_correct.proofs.replacing.replace.Goals as goal

pub returns-clause-rights : goal.returns-clause-rights
returns-clause-rights c =
    corrected_front c.args.layout.now c.args.side.axis c.args.side.high c.args.half c.cell_count-count.result c.split_at.result.0.now c.args.part.now c.args.right.now c.write_faces.new.list
    (c.cell_count-count.ensures.value ∙ ap count_of c.coarse_extents-extents.ensures.extents) c.split_at.ensures.front c.write_faces.ensures

pub returns-clause-lefts : goal.returns-clause-lefts
returns-clause-lefts c =
    corrected_back c.args.layout.now c.args.side.axis c.args.side.high c.args.half c.cell_count-count.result c.split_at.result.1.now c.args.part.now c.args.left.now c.write_faces-2.new.list
    (c.cell_count-count.ensures.value ∙ ap count_of c.coarse_extents-extents.ensures.extents) c.split_at.ensures.back c.write_faces-2.ensures
