-- For the code: a kernel in the cells of a block that has a row of totals for each field.
use Rattle.std.specs.Prelude.{◌≡◌, ℕ, ◌<◌, ◌≤◌, List, [], ◌∷◌, ◌++◌, length, map, slice_index, slice_set, sum, take}
use Rattle.std.specs.List.{slice_index_or}
use Rattle.package_fields.specs.declared.flow.Flow.{Flow}
use Rattle.package_fields.specs.Flow.{no_flow}
use Rattle.package_fields.specs.Kernel.{Reacted, with_parts}
use Rattle.mesh_rules.specs.Sums.{sum_to}
use Rattle.dense_mask.specs.Steps.{IsDone}

-- the row of a field
abbrev pub row_in : List (List ℕ) → ℕ → List ℕ
row_in rows f = slice_index_or rows f []

-- the totals of a cell by field
abbrev pub cell_in : List (List ℕ) → ℕ → List ℕ
cell_in rows place = map (λ (row : List ℕ). slice_index row place) rows

-- a list that has the totals of the first so many fields of a cell, and their sum
pub record Gathered (rows : List (List ℕ)) (place n : ℕ) (cell : List ℕ) (held : ℕ) : Type 0 where
  pub filled : (f : ℕ) → f < n → slice_index cell f ≡ slice_index (row_in rows f) place
  pub total : held ≡ sum (take n (cell_in rows place))

-- rows in which a cell has other totals
abbrev pub IsWritten : ℕ → List ℕ → List (List ℕ) → List (List ℕ) → Type 0
IsWritten place cell old new = IsDone (λ f before after. after ≡ slice_set before place (slice_index cell f)) [] old new

-- rows in which the first so many cells are as a kernel leaves them
pub record HasReacted (react : List ℕ → Reacted) (n : ℕ) (old new : List (List ℕ)) : Type 0 where
  pub many : length new ≡ length old
  pub long : (f : ℕ) → f < length old → length (row_in new f) ≡ length (row_in old f)
  pub done : (f place : ℕ) → f < length old → place < n → slice_index (row_in new f) place ≡ slice_index (react (cell_in old place)).totals f
  pub rest : (f place : ℕ) → f < length old → n ≤ place → slice_index (row_in new f) place ≡ slice_index (row_in old f) place

-- flows that gained what was made and used in the first so many cells
pub record HasGained (each : ℕ → Reacted) (n : ℕ) (old new : List Flow) : Type 0 where
  pub many : length new ≡ length old
  pub gained : (f : ℕ) → f < length old →
      slice_index_or new f no_flow ≡ with_parts (slice_index_or old f no_flow) (sum_to n (λ k. slice_index (each k).made f)) (sum_to n (λ k. slice_index (each k).used f))

-- lists to which the rows of a block were added as a kernel leaves them
pub record AddsReacted (react : List ℕ → Reacted) (size : ℕ) (rows : List (List ℕ)) (old new : List (List (List ℕ))) : Type 0 where
  pub left : List (List ℕ)
  pub reacted : HasReacted react size rows left
  pub added : IsDone (λ f before after. after ≡ before ++ row_in left f ∷ []) [] old new
