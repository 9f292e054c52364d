use Rattle.std.proofs.Common.{◌≡◌, slice_index}
use Rattle.strided_rows.specs.Written.{planes_written, rows_of, rows_written}
use Rattle.cell_boxes.specs.Planes.{planes_of}
use Rattle.block_regions.specs.Rows.{whole_box}
use Rattle.block_regions.proofs.Rows.{all_given}
use Rattle.block_regions.proofs.box_rows.write_box_rows.Given as goal

abbrev pub invariant-loop-plane : goal.invariant-loop-plane
invariant-loop-plane g l =
    l.into ≡ planes_written (λ n. n) (slice_index l.extents 0) (slice_index l.extents 1) (all_given (g.R.BoxRows.gives l.op l.from) l.extents) (planes_of (whole_box l.extents)) (planes_of l.fn.into_box) l.plane l.fn.into

abbrev pub invariant-loop-row : goal.invariant-loop-row
invariant-loop-row g l =
    l.into ≡ rows_written (λ n. n) (slice_index l.extents 0) (all_given (g.R.BoxRows.gives l.op l.from) l.extents) (rows_of (planes_of (whole_box l.extents)) l.plane) (rows_of (planes_of l.fn.into_box) l.plane) l.row
    (planes_written (λ n. n) (slice_index l.extents 0) (slice_index l.extents 1) (all_given (g.R.BoxRows.gives l.op l.from) l.extents) (planes_of (whole_box l.extents)) (planes_of l.fn.into_box) l.plane l.fn.into)
