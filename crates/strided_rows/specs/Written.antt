-- A list after rows of it were written.
use Rattle.std.specs.Prelude.{◌≡◌, ◌⊎◌, ℕ, zero, suc, ◌+◌, ◌*◌, ◌<◌, ◌≤◌, List, ◌++◌, length, map, take, drop, slice_index}
use Rattle.strided_rows.specs.declared.rows.Rows.{Rows}
use Rattle.strided_rows.specs.declared.planes.Planes.{Planes}

-- each of so many rows lies in a list of n numbers
abbrev pub Fits : ℕ → ℕ → Rows → ℕ → Type 0
Fits len count rows n = (row : ℕ) → row < count → rows.first + row * rows.step + len ≤ n

-- the rows of one plane
abbrev pub rows_of : Planes → ℕ → Rows
rows_of planes plane = record { first = planes.first + plane * planes.plane; step = planes.step }

-- each row of so many planes lies in a list of n numbers
abbrev pub FitPlanes : ℕ → ℕ → ℕ → Planes → ℕ → Type 0
FitPlanes len count planes all n = (plane row : ℕ) → plane < planes → row < count → all.first + plane * all.plane + row * all.step + len ≤ n

-- a list with a row of it at a place, by what the numbers of another list from a place on give
abbrev pub row_written : (ℕ → ℕ) → ℕ → List ℕ → ℕ → ℕ → List ℕ → List ℕ
row_written gives len from a b into = take b into ++ (map gives (take len (drop a from)) ++ drop len (drop b into))

-- a list after so many of its rows were written
abbrev pub rows_written : (ℕ → ℕ) → ℕ → List ℕ → Rows → Rows → ℕ → List ℕ → List ℕ
rows_written gives len from a b zero into = into
rows_written gives len from a b (suc row) into = row_written gives len from (a.first + row * a.step) (b.first + row * b.step) (rows_written gives len from a b row into)

-- a list after the rows of so many planes were written
abbrev pub planes_written : (ℕ → ℕ) → ℕ → ℕ → List ℕ → Planes → Planes → ℕ → List ℕ → List ℕ
planes_written gives len count from a b zero into = into
planes_written gives len count from a b (suc plane) into = rows_written gives len from (rows_of a plane) (rows_of b plane) count (planes_written gives len count from a b plane into)

-- rows of planes that do not overlap
pub record Apart (len count : ℕ) (all : Planes) : Type 0 where
  pub rows : len ≤ all.step
  pub planes : count * all.step ≤ all.plane

-- a place lies before a row, or after it
abbrev pub IsOff : ℕ → ℕ → ℕ → Type 0
IsOff n first len = (n < first) ⊎ (first + len ≤ n)

-- each number of the rows is what the other row's gives, and each number off them is as it was
pub record PlanesAreWritten : Type 0 where
  pub inside : (gives : ℕ → ℕ) (len count : ℕ) (from : List ℕ) (a b : Planes) (planes : ℕ) (into : List ℕ) (plane row x : ℕ) → FitPlanes len count planes a (length from) → FitPlanes len count planes b (length into)
      → Apart len count b → plane < planes → row < count → x < len
      → slice_index (planes_written gives len count from a b planes into) (b.first + plane * b.plane + row * b.step + x) ≡ gives (slice_index from (a.first + plane * a.plane + row * a.step + x))
  pub outside : (gives : ℕ → ℕ) (len count : ℕ) (from : List ℕ) (a b : Planes) (planes : ℕ) (into : List ℕ) (n : ℕ) → FitPlanes len count planes a (length from) → FitPlanes len count planes b (length into)
      → ((plane row : ℕ) → plane < planes → row < count → IsOff n (b.first + plane * b.plane + row * b.step) len) → slice_index (planes_written gives len count from a b planes into) n ≡ slice_index into n
  pub length_stays : (gives : ℕ → ℕ) (len count : ℕ) (from : List ℕ) (a b : Planes) (planes : ℕ) (into : List ℕ) → FitPlanes len count planes a (length from) → FitPlanes len count planes b (length into)
      → length (planes_written gives len count from a b planes into) ≡ length into
