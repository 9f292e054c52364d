use Rattle.std.proofs.Common.{◌*◌, ◌<◌, ℕ, List, length, slice_index, subst, sym, ap, ◌∙◌}
use Rattle.block_layout.specs.Indices.{IsWithin}
use Rattle.cell_boxes.specs.Boxes.{HasCells, IsBoxIn, StaysOffBox}
use Rattle.restrict_prolong.proofs.Halves.{factor_least}
use Rattle.restrict_prolong.proofs.ShareRows.{first_factor}
use Rattle.restrict_prolong.proofs.Wholes.{refined_cells}
use Rattle.restrict_prolong.specs.Refined.{factors}
use Rattle.restrict_prolong.proofs.prolongation.prolong_box.Goals as goal

pub write_box_rows-requires-clause-cells : goal.write_box_rows-requires-clause-cells
write_box_rows-requires-clause-cells c =
    subst HasCells (sym c.refined_extents-fine.ensures) (refined_cells (factors c.args.dims) c.args.extents (factor_least c.args.dims 0) (factor_least c.args.dims 1) (factor_least c.args.dims 2) c.requires.cells)

pub write_box_rows-requires-clause-into : goal.write_box_rows-requires-clause-into
write_box_rows-requires-clause-into c =
    subst (λ (e : List ℕ). IsBoxIn e c.args.into_box (length c.args.into.now)) (sym c.refined_extents-fine.ensures) c.requires.into

pub write_box_rows-requires-clause-asks : goal.write_box_rows-requires-clause-asks
write_box_rows-requires-clause-asks c = λ row plane hr hp. record {
  least = c.requires.least;
  most = c.requires.most;
  cells = c.requires.cells;
  lies = c.requires.from;
  whole = ap (λ (e : List ℕ). slice_index e 0) c.refined_extents-fine.ensures ∙ ap (λ (f : ℕ). f * slice_index c.args.extents 0) (first_factor c.args.dims c.requires.least);
  lies_in = record {
    row_in = subst (λ (e : List ℕ). row < slice_index e 1) c.refined_extents-fine.ensures hr;
    plane_in = subst (λ (e : List ℕ). plane < slice_index e 2) c.refined_extents-fine.ensures hp;
  };
}

pub returns-clause-inside : goal.returns-clause-inside
returns-clause-inside c = λ p w. c.write_box_rows.ensures.inside p (subst (λ (e : List ℕ). IsWithin e p) (sym c.refined_extents-fine.ensures) w)

pub returns-clause-outside : goal.returns-clause-outside
returns-clause-outside c = subst (λ (e : List ℕ). StaysOffBox e c.args.into_box c.args.into.now c.write_box_rows.new.into) c.refined_extents-fine.ensures c.write_box_rows.ensures.outside
