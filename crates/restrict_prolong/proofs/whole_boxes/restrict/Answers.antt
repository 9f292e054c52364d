use Rattle.std.proofs.Common.{ap, ◌∙◌}
use Rattle.block_regions.specs.Rows.{whole_box}
use Rattle.restrict_prolong.proofs.Wholes.{restricted_by, small_sums}
use Rattle.restrict_prolong.proofs.whole_boxes.restrict.Goals as goal

pub restrict_box-requires-clause-small : goal.restrict_box-requires-clause-small
restrict_box-requires-clause-small c =
    small_sums c.args.dims c.args.n c.args.fine.now c.factors-each.result c.whole-fine_box.result c.factors-each.ensures (c.whole-fine_box.ensures ∙ ap whole_box c.refined_extents.ensures) c.requires.small

pub returns : goal.returns
returns c =
    restricted_by c.args.dims c.args.n c.args.fine.now c.restrict_box.new.into c.factors-each.result c.whole-fine_box.result c.whole-coarse_box.result c.factors-each.ensures
    (c.whole-fine_box.ensures ∙ ap whole_box c.refined_extents.ensures) c.whole-coarse_box.ensures (c.restrict_box.auto.into ∙ c.requires.coarse) c.restrict_box.ensures.inside
