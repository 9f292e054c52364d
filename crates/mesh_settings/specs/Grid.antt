-- The keys of the blocks of the mesh, and the lattice of root blocks that follows.
use Rattle.std.specs.Prelude.{◌==◌, ◌&&◌, ◌*◌, ◌/◌, ◌%◌, nat_le, nat_lt, if◌then◌else◌, ℕ, pos, Bool, List, [], ◌∷◌, Some, Result, Ok, slice_index, codes}
use Rattle.std.specs.List.{slice_index_or}
use Rattle.input_file.specs.Texts.{Text}
use Rattle.input_file.specs.Blocks.{Blocks}
use Rattle.morton_order.specs.declared.space.Shape.{Shape}
use Rattle.mesh_settings.specs.declared.words.FaceKind.{FaceKind}
use Rattle.mesh_settings.specs.declared.words.FaceKind.TheVariants.{Outflow}
use Rattle.deck_values.specs.declared.fault.ProblemFault.{ProblemFault}
use Rattle.deck_values.specs.declared.fault.ProblemFault.TheVariants.{BadValue, Limit}
use Rattle.mesh_settings.specs.declared.grid.Grid.{Grid}
use Rattle.deck_values.specs.Reading.{◌>>=◌, only_if}
use Rattle.deck_values.specs.BlockReader.{number}
use Rattle.mesh_settings.specs.Mesh.{is_periodic}
use Rattle.mesh_settings.specs.Limits.{least_cells, greatest_cells, greatest_roots}

-- the name of the block
unfoldable pub meshblock : Text
meshblock = codes "parthenon/meshblock"

-- the cells of a block along an axis: even, and a divisor of the cells of the mesh
unfoldable pub cells_along : Blocks → Text → ℕ → Result ℕ ProblemFault
cells_along d key size = do
  n ← number d meshblock key least_cells greatest_cells (Some size)
  only_if (n % 2 == 0 && size % n == 0) n (BadValue meshblock key)

-- the same, and 1 along an axis that is not in use
unfoldable pub cells_or_one : Blocks → Text → ℕ → Result ℕ ProblemFault
cells_or_one d key size = if size == 1 then number d meshblock key 1 1 (Some 1) else cells_along d key size

-- the cells of a block along each axis
unfoldable pub cells : Blocks → List ℕ → Result (List ℕ) ProblemFault
cells d size = do
  n1 ← cells_along d (codes "nx1") (slice_index size 0)
  n2 ← cells_or_one d (codes "nx2") (slice_index size 1)
  n3 ← cells_or_one d (codes "nx3") (slice_index size 2)
  Ok (n1 ∷ n2 ∷ n3 ∷ [])

-- how many axes are in use
abbrev pub dims_of : List ℕ → ℕ
dims_of size = if slice_index size 1 == 1 then 1 else (if slice_index size 2 == 1 then 2 else 3)

-- how many root blocks lie along an axis
abbrev pub roots_along : List ℕ → List ℕ → ℕ → ℕ
roots_along size cells axis = slice_index size axis / slice_index cells axis

-- whether an axis is in use and its faces are periodic
abbrev pub wraps_along : List ℕ → List FaceKind → ℕ → Bool
wraps_along size faces axis = nat_lt axis (dims_of size) && is_periodic (slice_index_or faces (2 * axis) Outflow)

-- the lattice of the root blocks
abbrev pub shape_of : List ℕ → List ℕ → List FaceKind → Shape
shape_of size cells faces = record {
  dims = dims_of size;
  root = roots_along size cells 0 ∷ roots_along size cells 1 ∷ roots_along size cells 2 ∷ [];
  wrap = wraps_along size faces 0 ∷ wraps_along size faces 1 ∷ wraps_along size faces 2 ∷ [];
}

-- how many root blocks there are
abbrev pub root_blocks : List ℕ → List ℕ → ℕ
root_blocks size cells = roots_along size cells 0 * roots_along size cells 1 * roots_along size cells 2

-- all keys of the block, in order, and then the number of root blocks
unfoldable pub grid : Blocks → List ℕ → List FaceKind → Result Grid ProblemFault
grid d size faces = do
  c ← cells d size
  only_if (nat_le (root_blocks size c) greatest_roots) (record { shape = shape_of size c faces; cells = c }) (Limit meshblock (codes "blocks") (pos (root_blocks size c)))
