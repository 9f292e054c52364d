-- What one more row, or one more plane, makes of a list.
use Rattle.std.proofs.Common.{◌≡◌, ℕ, ◌+◌, ◌*◌, List, map, take, drop, refl, add-one}
use borrow.Rule.Slice.PartMut.{put_mid}
use Rattle.strided_rows.specs.declared.rows.Rows.{Rows}
use Rattle.strided_rows.specs.declared.planes.Planes.{Planes}
use Rattle.strided_rows.specs.Written.{row_written, rows_written, rows_of, planes_written}

-- a slice that was written in place is the row written
pub put_is_written : (gives : ℕ → ℕ) (len : ℕ) (from : List ℕ) (a b j k : ℕ) (into new : List ℕ) → j ≡ len → k ≡ len → new ≡ map gives (take j (drop a from)) → put_mid b k into new ≡ row_written gives len from a b into
put_is_written gives len from a b j k into new same_from same_into is =
    rw (is, same_from, same_into) refl

pub one_more_row : (gives : ℕ → ℕ) (len : ℕ) (from : List ℕ) (a b : Rows) (row : ℕ) (before into : List ℕ) → before ≡ rows_written gives len from a b row into
    → row_written gives len from (a.first + row * a.step) (b.first + row * b.step) before ≡ rows_written gives len from a b (row + 1) into
one_more_row gives len from a b row before into is =
    rw (add-one, is) refl

pub one_more_plane : (gives : ℕ → ℕ) (len count : ℕ) (from : List ℕ) (a b : Planes) (plane : ℕ) (before into : List ℕ) → before ≡ planes_written gives len count from a b plane into
    → rows_written gives len from (rows_of a plane) (rows_of b plane) count before ≡ planes_written gives len count from a b (plane + 1) into
one_more_plane gives len count from a b plane before into is =
    rw (add-one, is) refl
