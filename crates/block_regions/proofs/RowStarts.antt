-- Rows of a box lie in its list.
use Rattle.std.proofs.Common.{ℕ, ◌+◌, ◌*◌, ◌≤◌, List, slice_index, arith}
use Rattle.std.proofs.Math.Nat.{mul-le-mul_left, mul-le-mul_right}
use Rattle.cell_boxes.specs.declared.boxes.BoxIn.{BoxIn}
use Rattle.cell_boxes.specs.Boxes.{HasCells, IsBoxIn}
use Rattle.block_regions.specs.Rows.{IsRowOf}

ends_by : (f l0 w0 e0 y w1 z w2 n : ℕ) → l0 + e0 ≤ w0 → y + 1 ≤ w1 → z + 1 ≤ w2 → f + w0 * w1 * w2 ≤ n → f + (l0 + w0 * (y + w1 * z)) + e0 ≤ n
ends_by f l0 w0 e0 y w1 z w2 n a b c d =
    let planes : w1 * (z + 1) ≤ w1 * w2 = mul-le-mul_left w1 c in
    let rows : w0 * (y + w1 * z + 1) ≤ w0 * (w1 * w2) = mul-le-mul_left w0 (omega (arith, planes, b)) in
    omega (arith, rows, a, d)

one_of : (w y : ℕ) → 1 ≤ w → y ≤ w * y
one_of w y h = let one : 1 * y ≤ w * y = mul-le-mul_right y h in omega (arith, one)

-- a row ends in the list, and the numbers that lead to its start are small enough
pub record RowWithin (extents : List ℕ) (b : BoxIn) (n row plane : ℕ) : Type 0 where
  pub ends : b.first + (slice_index b.low 0 + slice_index b.widths 0 * (slice_index b.low 1 + row + slice_index b.widths 1 * (slice_index b.low 2 + plane))) + slice_index extents 0 ≤ n
  pub rows : slice_index b.low 1 + row + slice_index b.widths 1 * (slice_index b.low 2 + plane) ≤ n
  pub planes : slice_index b.low 2 + plane ≤ n

pub row_within : (extents : List ℕ) (b : BoxIn) (n row plane : ℕ) → HasCells extents → IsBoxIn extents b n → IsRowOf extents row plane → RowWithin extents b n row plane
row_within extents b n row plane cells is r =
    let y = slice_index b.low 1 + row in
    let z = slice_index b.low 2 + plane in
    let w0 = slice_index b.widths 0 in
    let w1 = slice_index b.widths 1 in
    let some0 : 1 ≤ w0 = omega (arith, is.along1, cells.along1) in
    let some1 : 1 ≤ w1 = omega (arith, is.along2, cells.along2) in
    let e : b.first + (slice_index b.low 0 + w0 * (y + w1 * z)) + slice_index extents 0 ≤ n =
    ends_by b.first (slice_index b.low 0) w0 (slice_index extents 0) y w1 z (slice_index b.widths 2) n is.along1 (omega (arith, is.along2, r.row_in)) (omega (arith, is.along3, r.plane_in)) is.within in
    let rows : y + w1 * z ≤ w0 * (y + w1 * z) = one_of w0 (y + w1 * z) some0 in
    let planes : z ≤ w1 * z = one_of w1 z some1 in
    record { ends = e; rows = omega (arith, e, rows); planes = omega (arith, e, rows, planes) }
