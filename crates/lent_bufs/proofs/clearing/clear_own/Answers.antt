use Rattle.std.proofs.Common.{◌≡◌, subst, ◌∙◌, slice_index}
use Rattle.cell_boxes.specs.declared.boxes.BoxIn.{BoxIn}
use Rattle.cell_boxes.specs.Boxes.{StaysOffBox, address}
use Rattle.lent_bufs.proofs.Clears.{cleared_is}
use Rattle.lent_bufs.proofs.clearing.clear_own.Goals as goal

pub returns : goal.returns
returns c =
    let l = c.args.layout.now in
    let new = c.write_box_rows.new.into in
    let outside : StaysOffBox l.cells c.own_cells-own.result c.args.cells.now new = λ n off. c.write_box_rows.ensures.outside n (λ i w. off i (record { along1 = w.along1; along2 = w.along2; along3 = w.along3 })) in
    cleared_is l c.args.cells.now new (c.write_box_rows.auto.into ∙ c.requires)
    (λ i w. subst (λ (b : BoxIn). slice_index new (address b i) ≡ 0) c.own_cells-own.ensures.value (c.write_box_rows.ensures.inside i (record { along1 = w.along1; along2 = w.along2; along3 = w.along3 })))
    (subst (λ (b : BoxIn). StaysOffBox l.cells b c.args.cells.now new) c.own_cells-own.ensures.value outside)
