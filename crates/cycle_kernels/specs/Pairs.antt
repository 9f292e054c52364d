-- What passes the faces of a block, how finer blocks correct it, and what comes of it.
use Rattle.std.specs.Prelude.{◌==◌, ℕ, ◌+◌, ◌-◌, ◌/◌, ◌%◌, Bool, false, true, cond, ◌&&◌, not, List, [], ◌∷◌, ◌++◌, replicate, slice_index}
use Rattle.std.specs.List.{list_any}
use Rattle.morton_order.specs.Neighbours.{across}
use Rattle.mesh_rules.specs.Sums.{sum_to, table}
use Rattle.mesh_rules.specs.Due.{Exchange, flux_letters}
use Rattle.mesh_rules.specs.Fields.{FaceRates, kind_at, moves_at, rates_at}
use Rattle.block_layout.specs.declared.layout.Layout.{Layout}
use Rattle.block_layout.specs.Indices.{count_of, index_of, number_of}
use Rattle.block_layout.specs.Layouts.{interior_len}
use Rattle.block_layout.specs.Faces.{face_count, face_extents, faces_along}
use Rattle.block_layout.specs.Regions.{Region, covers}
use Rattle.block_laws.specs.Rates.{reflects}
use Rattle.upwind_fluxes.specs.declared.donor.Donor.{Donor}
use Rattle.upwind_fluxes.specs.declared.donor.Donor.TheVariants.{Below, Above}
use Rattle.upwind_fluxes.specs.Fluxes.{flux_at}
use Rattle.slope_kernel.specs.Slopes.{slope_flux}
use Rattle.transport_kernel.specs.Update.{gain, listed, loss}
use Rattle.transport_kernel.specs.Passed.{passed_at}
use Rattle.flux_correct.specs.Sums.{coarse_extents, flux_part}
use Rattle.flux_correct.specs.Corrected.{covered}
use Rattle.cycle_kernels.specs.Blocks.{CycleMesh, is_domain_face, leaf_at}
use Rattle.cycle_kernels.specs.Lists.{less, with_ghosts}
use Rattle.cycle_kernels.specs.Letters.{no_part, part_covered, same_letter}

-- what passes each face of a block to the right, and to the left
pub record FacePairs : Type 0 where
  pub right : List ℕ
  pub left : List ℕ

-- a number for each face of a block, by axis and index: the faces of x1, then of x2, then of x3
abbrev pub list_along : Layout → ℕ → (ℕ → List ℕ → ℕ) → List ℕ
list_along l axis each = table (faces_along l axis) (λ k. each axis (index_of (face_extents l axis) k))

abbrev pub face_list : Layout → (ℕ → List ℕ → ℕ) → List ℕ
face_list l each = list_along l 0 each ++ (list_along l 1 each ++ list_along l 2 each)

-- nothing passes
abbrev pub no_pairs : CycleMesh → FacePairs
no_pairs w = record { right = replicate (face_count w.layout) 0; left = replicate (face_count w.layout) 0 }

-- the sides of a block through which nothing passes: x1 low, x1 high, x2 low and so on
abbrev pub closed_sides : CycleMesh → ℕ → List Bool
closed_sides w b = table 6 (λ n. reflects (kind_at w.settings (n / 2) (n % 2 == 1)) (across w.mesh.shape (leaf_at w b) (n / 2) (n % 2 == 1)))

-- the rate by which the cells below a face pay, and those above it
abbrev pub paid_by : Donor → FaceRates → ℕ
paid_by Below rates = rates.right
paid_by Above rates = rates.left

-- what they pay at a face of a block, by the field's order, with these totals in the block's list
abbrev pub flux_through : CycleMesh → ℕ → ℕ → Donor → List ℕ → ℕ → List ℕ → ℕ
flux_through w b f donor cells axis i =
    let rates = rates_at w.settings f axis (leaf_at w b).level in
    cond ((moves_at w.settings f).order == 2)
    (slope_flux w.layout donor (paid_by donor rates) rates.denominator (closed_sides w b) cells axis i)
    (flux_at w.layout donor (paid_by donor rates) rates.denominator (closed_sides w b) cells axis i)

-- what passes the faces of a block and field with these totals and ghosts
abbrev pub fluxes_of : CycleMesh → ℕ → ℕ → List ℕ → List ℕ → FacePairs
fluxes_of w b f own ghosts = record {
  right = face_list w.layout (flux_through w b f Below (with_ghosts w.layout own ghosts));
  left = face_list w.layout (flux_through w b f Above (with_ghosts w.layout own ghosts));
}

-- a field's part of a flux letter: the sums of what passes its sender's faces; a letter that is not due has no part
abbrev pub sums_sent : CycleMesh → Exchange → FacePairs → List ℕ
sums_sent w x pairs = cond (list_any (same_letter x) (flux_letters w.mesh)) (flux_part w.layout x.axis (not x.high) pairs.right pairs.left) (no_part w x)

-- the faces of its receiver that a flux letter is about, and its sum for one of them: first come those to the right
abbrev pub faces_corrected : CycleMesh → Exchange → Region
faces_corrected w x = covered w.layout x.axis x.high (part_covered w x)

abbrev pub first_sum : Layout → Donor → ℕ → ℕ
first_sum l Below axis = 0
first_sum l Above axis = count_of (coarse_extents l axis)

abbrev pub sum_given : CycleMesh → Donor → Exchange → List ℕ → List ℕ → ℕ
sum_given w donor x part i = slice_index part (first_sum w.layout donor x.axis + number_of (coarse_extents w.layout x.axis) (less i (faces_corrected w x).low))

-- what passes a face of a block in one direction: the sum of the first of some letters that is about it, or the block's own
abbrev pub corrected_at : CycleMesh → ℕ → Donor → List ℕ → List Exchange → (Exchange → List ℕ) → ℕ → List ℕ → ℕ
corrected_at w b donor own [] parts axis i = listed w.layout own axis i
corrected_at w b donor own (x ∷ rest) parts axis i =
    cond (x.to == b && (x.axis == axis && covers (faces_corrected w x) i)) (sum_given w donor x (parts x) i) (corrected_at w b donor own rest parts axis i)

-- the pairs of a block, corrected by the letters of a stage
abbrev pub corrected_by : CycleMesh → ℕ → FacePairs → (Exchange → List ℕ) → FacePairs
corrected_by w b pairs parts = record {
  right = face_list w.layout (corrected_at w b Below pairs.right (flux_letters w.mesh) parts);
  left = face_list w.layout (corrected_at w b Above pairs.left (flux_letters w.mesh) parts);
}

-- the next totals of a block: each cell gains and loses what passes its faces
abbrev pub updated_at : CycleMesh → List ℕ → FacePairs → ℕ → ℕ
updated_at w own pairs k =
    let i = index_of w.layout.cells k in
    slice_index own k + gain w.layout.dims (listed w.layout pairs.right) (listed w.layout pairs.left) i - loss w.layout.dims (listed w.layout pairs.right) (listed w.layout pairs.left) i

abbrev pub updated_by : CycleMesh → List ℕ → FacePairs → List ℕ
updated_by w own pairs = table (interior_len w.layout) (updated_at w own pairs)

-- what passes the faces of the domain that a block has, inwards and outwards
abbrev pub passed_face : CycleMesh → ℕ → ℕ → Bool → List ℕ → ℕ
passed_face w b axis high list = cond (is_domain_face w b axis high) (passed_at w.layout axis high list) 0

abbrev pub inflow_of : CycleMesh → ℕ → FacePairs → ℕ
inflow_of w b pairs = sum_to w.layout.dims (λ axis. passed_face w b axis false pairs.right + passed_face w b axis true pairs.left)

abbrev pub outflow_of : CycleMesh → ℕ → FacePairs → ℕ
outflow_of w b pairs = sum_to w.layout.dims (λ axis. passed_face w b axis false pairs.left + passed_face w b axis true pairs.right)
