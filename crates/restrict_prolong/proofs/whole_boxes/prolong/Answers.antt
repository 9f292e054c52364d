use Rattle.std.proofs.Common.{ap, ◌∙◌}
use Rattle.block_regions.specs.Rows.{whole_box}
use Rattle.restrict_prolong.proofs.Wholes.{prolonged_by}
use Rattle.restrict_prolong.proofs.whole_boxes.prolong.Goals as goal

pub returns : goal.returns
returns c =
    prolonged_by c.args.dims c.args.n c.args.coarse.now c.prolong_box.new.into c.whole-coarse_box.result c.whole-fine_box.result c.whole-coarse_box.ensures
    (c.whole-fine_box.ensures ∙ ap whole_box c.refined_extents.ensures) (c.prolong_box.auto.into ∙ c.requires.fine) c.prolong_box.ensures.inside
