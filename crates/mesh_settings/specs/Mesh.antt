-- The keys of the mesh: its size, how it is refined, and its faces.
use Rattle.std.specs.Prelude.{◌==◌, ◌&&◌, ◌*◌, nat_le, if◌then◌else◌, ℕ, ℤ, pos, negsuc, Bool, true, false, List, [], ◌∷◌, Option, Some, None, Result, Ok, slice_index, codes}
use Rattle.input_file.specs.Texts.{Text}
use Rattle.input_file.specs.Blocks.{Blocks}
use Rattle.mesh_settings.specs.declared.words.Mode.{Mode}
use Rattle.mesh_settings.specs.declared.words.Mode.TheVariants.{Plain, Fixed, Adaptive}
use Rattle.mesh_settings.specs.declared.words.FaceKind.{FaceKind}
use Rattle.mesh_settings.specs.declared.words.FaceKind.TheVariants.{Periodic, Outflow, Reflecting, Inflow}
use Rattle.deck_values.specs.declared.fault.ProblemFault.{ProblemFault}
use Rattle.deck_values.specs.declared.fault.ProblemFault.TheVariants.{BadValue}
use Rattle.mesh_settings.specs.declared.mesh.Refining.{Refining}
use Rattle.mesh_settings.specs.declared.mesh.Mesh.{Mesh}
use Rattle.deck_values.specs.Reading.{◌>>=◌, only_if}
use Rattle.deck_values.specs.BlockReader.{value_at, number, number_or_one, signed}
use Rattle.mesh_settings.specs.Words.{mode_named, face_kind_named}
use Rattle.mesh_settings.specs.Limits.{least_cells, greatest_size, greatest_levels, greatest_derefine_count, greatest_pack}

-- the name of the block
unfoldable pub mesh : Text
mesh = codes "parthenon/mesh"

unfoldable pub size1 : Blocks → Result ℕ ProblemFault
size1 d = number d mesh (codes "nx1") least_cells greatest_size None

unfoldable pub size2 : Blocks → Result ℕ ProblemFault
size2 d = number_or_one d mesh (codes "nx2") least_cells greatest_size (Some 1)

-- a mesh with one layer of cells along x2 has one along x3 too
unfoldable pub size3 : Blocks → ℕ → Result ℕ ProblemFault
size3 d n2 = if n2 == 1 then number d mesh (codes "nx3") 1 1 (Some 1) else number_or_one d mesh (codes "nx3") least_cells greatest_size (Some 1)

unfoldable pub refinement : Blocks → Result Mode ProblemFault
refinement d = value_at mode_named d mesh (codes "refinement") (Some Plain)

unfoldable pub numlevel : Blocks → Result ℕ ProblemFault
numlevel d = number d mesh (codes "numlevel") 1 greatest_levels (Some 1)

unfoldable pub derefine_count : Blocks → Result ℕ ProblemFault
derefine_count d = number d mesh (codes "derefine_count") 1 greatest_derefine_count (Some 10)

-- -1, or 1 to 65,536
abbrev pub is_pack_size : ℤ → Bool
is_pack_size (pos n) = nat_le 1 n && nat_le n greatest_pack
is_pack_size (negsuc n) = n == 0

-- the leaves of a partition, none for -1, where all leaves are in one
abbrev pub pack_of : ℤ → Option ℕ
pack_of (pos n) = Some n
pack_of (negsuc n) = None

unfoldable pub pack_size : Blocks → Result (Option ℕ) ProblemFault
pack_size d = do
  z ← signed d mesh (codes "pack_size") is_pack_size (Some (pos 16))
  Ok (pack_of z)

unfoldable pub face : Blocks → Text → Result FaceKind ProblemFault
face d key = value_at face_kind_named d mesh key (Some Periodic)

abbrev pub is_periodic : FaceKind → Bool
is_periodic Periodic = true
is_periodic Outflow = false
is_periodic Reflecting = false
is_periodic Inflow = false

abbrev pub is_inflow : FaceKind → Bool
is_inflow Periodic = false
is_inflow Outflow = false
is_inflow Reflecting = false
is_inflow Inflow = true

-- both are true, or both are false
abbrev pub alike : Bool → Bool → Bool
alike true b = b
alike false true = false
alike false false = true

-- the faces of an axis, of which both or neither are periodic
unfoldable pub face_pair : Blocks → Text → Text → Result (FaceKind × FaceKind) ProblemFault
face_pair d low high = do
  l ← face d low
  h ← face d high
  only_if (alike (is_periodic l) (is_periodic h)) (l, h) (BadValue mesh high)

-- the cells of the mesh along each axis
unfoldable pub size : Blocks → Result (List ℕ) ProblemFault
size d = do
  n1 ← size1 d
  n2 ← size2 d
  n3 ← size3 d n2
  Ok (n1 ∷ n2 ∷ n3 ∷ [])

-- the root cells of the mesh
abbrev pub cells_of : List ℕ → ℕ
cells_of size = slice_index size 0 * slice_index size 1 * slice_index size 2

-- how many levels there are: one where nothing is refined
abbrev pub levels_in : Mode → ℕ → ℕ
levels_in Plain n = 1
levels_in Fixed n = n
levels_in Adaptive n = n

-- how the mesh is refined and partitioned
unfoldable pub refining : Blocks → Result Refining ProblemFault
refining d = do
  mode ← refinement d
  n ← numlevel d
  count ← derefine_count d
  pack ← pack_size d
  Ok (record { mode = mode; levels = levels_in mode n; derefine_count = count; pack_size = pack })

-- the kinds of the faces of x1, of x2 and of x3
unfoldable pub faces : Blocks → Result (List FaceKind) ProblemFault
faces d = do
  x1 ← face_pair d (codes "ix1_bc") (codes "ox1_bc")
  x2 ← face_pair d (codes "ix2_bc") (codes "ox2_bc")
  x3 ← face_pair d (codes "ix3_bc") (codes "ox3_bc")
  Ok (x1.0 ∷ x1.1 ∷ x2.0 ∷ x2.1 ∷ x3.0 ∷ x3.1 ∷ [])

-- all keys of the block, in order
unfoldable pub mesh_keys : Blocks → Result Mesh ProblemFault
mesh_keys d = do
  n ← size d
  r ← refining d
  f ← faces d
  Ok (record { size = n; refining = r; faces = f })
