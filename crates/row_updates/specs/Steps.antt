-- For the code: rows and planes after so many of them were updated.
use Rattle.std.specs.Prelude.{◌≡◌, ◌≢◌, ℕ, ◌+◌, ◌*◌, ◌<◌, ◌≤◌, List, slice_index}
use Rattle.strided_rows.specs.declared.rows.Rows.{Rows}
use Rattle.strided_rows.specs.declared.planes.Planes.{Planes}
use Rattle.row_updates.specs.Numbers.{Numbers}

-- the place of a number of a row
abbrev pub in_row : Rows → ℕ → ℕ → ℕ
in_row rows row k = rows.first + row * rows.step + k

-- the place of a number of a row of a plane
abbrev pub in_plane : Planes → ℕ → ℕ → ℕ → ℕ
in_plane all plane row k = all.first + plane * all.plane + row * all.step + k

-- the rows that are read
pub record RowSources : Type 0 where
  pub one : List ℕ
  pub first : Rows
  pub second : Rows
  pub other : List ℕ
  pub third : Rows
  pub fourth : Rows

-- the planes that are read
pub record PlaneSources : Type 0 where
  pub one : List ℕ
  pub first : Planes
  pub second : Planes
  pub other : List ℕ
  pub third : Planes
  pub fourth : Planes

-- the numbers of a place of a row
abbrev pub row_numbers : RowSources → ℕ → ℕ → ℕ → Numbers
row_numbers from row k own = record {
  own = own;
  first = slice_index from.one (in_row from.first row k);
  second = slice_index from.one (in_row from.second row k);
  third = slice_index from.other (in_row from.third row k);
  fourth = slice_index from.other (in_row from.fourth row k);
}

abbrev pub plane_numbers : PlaneSources → ℕ → ℕ → ℕ → ℕ → Numbers
plane_numbers from plane row k own = record {
  own = own;
  first = slice_index from.one (in_plane from.first plane row k);
  second = slice_index from.one (in_plane from.second plane row k);
  third = slice_index from.other (in_plane from.third plane row k);
  fourth = slice_index from.other (in_plane from.fourth plane row k);
}

-- so many rows are done
abbrev pub RowsDone : (Numbers → ℕ) → RowSources → ℕ → ℕ → Rows → List ℕ → List ℕ → Type 0
RowsDone gives from len count at old new = (row k : ℕ) → row < count → k < len → slice_index new (in_row at row k) ≡ gives (row_numbers from row k (slice_index old (in_row at row k)))

abbrev pub RowsStay : ℕ → ℕ → Rows → List ℕ → List ℕ → Type 0
RowsStay len count at old new = (n : ℕ) → ((row k : ℕ) → row < count → k < len → n ≢ in_row at row k) → slice_index new n ≡ slice_index old n

-- so many planes are done
abbrev pub PlanesDone : (Numbers → ℕ) → PlaneSources → ℕ → ℕ → ℕ → Planes → List ℕ → List ℕ → Type 0
PlanesDone gives from len count planes at old new = (plane row k : ℕ) → plane < planes → row < count → k < len →
    slice_index new (in_plane at plane row k) ≡ gives (plane_numbers from plane row k (slice_index old (in_plane at plane row k)))

abbrev pub PlanesStay : ℕ → ℕ → ℕ → Planes → List ℕ → List ℕ → Type 0
PlanesStay len count planes at old new = (n : ℕ) → ((plane row k : ℕ) → plane < planes → row < count → k < len → n ≢ in_plane at plane row k) → slice_index new n ≡ slice_index old n

-- a rule takes the numbers of each place
abbrev pub TakesRows : (Numbers → Type 0) → RowSources → ℕ → ℕ → Rows → List ℕ → Type 0
TakesRows takes from len count at own = (row k : ℕ) → row < count → k < len → takes (row_numbers from row k (slice_index own (in_row at row k)))

abbrev pub TakesPlanes : (Numbers → Type 0) → PlaneSources → ℕ → ℕ → ℕ → Planes → List ℕ → Type 0
TakesPlanes takes from len count planes at own = (plane row k : ℕ) → plane < planes → row < count → k < len → takes (plane_numbers from plane row k (slice_index own (in_plane at plane row k)))

-- the rows and the planes that are read lie in their lists
pub record RowsFit (len count : ℕ) (from : RowSources) (n m : ℕ) : Type 0 where
  pub firsts : (row : ℕ) → row < count → from.first.first + row * from.first.step + len ≤ n
  pub seconds : (row : ℕ) → row < count → from.second.first + row * from.second.step + len ≤ n
  pub thirds : (row : ℕ) → row < count → from.third.first + row * from.third.step + len ≤ m
  pub fourths : (row : ℕ) → row < count → from.fourth.first + row * from.fourth.step + len ≤ m
