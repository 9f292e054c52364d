use Rattle.std.proofs.Common.{◌∙◌, length, not}
use Rattle.block_layout.specs.Faces.{face_count}
use Rattle.dense_stage.proofs.Items.{item_size, sets_fit}
use Rattle.dense_stage.proofs.PartPut.{part_length}
use Rattle.dense_stage.proofs.corrections.correct_part.Goals as goal

pub put_part-requires-clause-part : goal.put_part-requires-clause-part
put_part-requires-clause-part c =
    part_length c.args.layout.now c.args.side.axis (not c.args.side.high) c.as_slice.result.now c.as_slice-2.result.now c.as_slice-3.result.now (c.as_slice-3.ensures ∙ c.in_ok-part.ensures)

pub put_part-requires-clause-right_list : goal.put_part-requires-clause-right_list
put_part-requires-clause-right_list c = let fit = c.requires.faces in item_size (face_count c.args.layout.now) (length c.args.faces.now.right.items) c.args.faces.now.right.items c.args.leaf c.index_mut.result.now fit.rights c.requires.leaf c.index_mut.ensures.value

pub put_part-requires-clause-left_list : goal.put_part-requires-clause-left_list
put_part-requires-clause-left_list c = let fit = c.requires.faces in item_size (face_count c.args.layout.now) (length c.args.faces.now.right.items) c.args.faces.now.left.items c.args.leaf c.index_mut-2.result.now fit.lefts c.requires.leaf c.index_mut-2.ensures.value

pub returns-clause-faces : goal.returns-clause-faces
returns-clause-faces c =
    let fit = c.requires.faces in
    record {
      rights = sets_fit (face_count c.args.layout.now) (length c.args.faces.now.right.items) c.args.faces.now.right.items c.args.leaf c.put_part.new.right fit.rights c.requires.leaf c.put_part.ensures.right_size;
      lefts = sets_fit (face_count c.args.layout.now) (length c.args.faces.now.right.items) c.args.faces.now.left.items c.args.leaf c.put_part.new.left fit.lefts c.requires.leaf c.put_part.ensures.left_size;
    }
