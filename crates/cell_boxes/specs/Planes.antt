-- For the code: the rows of a box.
use Rattle.std.specs.Prelude.{◌+◌, ◌*◌, slice_index}
use Rattle.block_layout.specs.Indices.{number_of}
use Rattle.strided_rows.specs.declared.planes.Planes.{Planes}
use Rattle.cell_boxes.specs.declared.boxes.BoxIn.{BoxIn}

-- the first row begins at the lowest index
abbrev pub planes_of : BoxIn → Planes
planes_of b = record {
  first = b.first + number_of b.widths b.low;
  step = slice_index b.widths 0;
  plane = slice_index b.widths 0 * slice_index b.widths 1;
}
