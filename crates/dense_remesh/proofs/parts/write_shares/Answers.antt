use Rattle.dense_remesh.proofs.Boxes.{shares_written}
use Rattle.dense_remesh.proofs.parts.write_shares.Goals as goal

pub returns : goal.returns
returns c =
    shares_written c.args.layout.now c.args.child c.args.coarse.now c.prolong_box.new.into c.half_cells-half.result c.cells.result c.part_box-from_box.result c.whole-into_box.result c.half_cells-half.ensures c.part_box-from_box.ensures c.whole-into_box.ensures
    (record { first = c.cells.ensures.first; second = c.cells.ensures.second; third = c.cells.ensures.third }) c.prolong_box.ensures.inside
