-- For the code: a pass along one axis, and layers of cells along it.
use Rattle.std.specs.Prelude.{◌≡◌, ◌⊎◌, ℕ, ◌+◌, ◌-◌, ◌<◌, ◌≤◌, ◌^◌, Bool, true, false, cond, List, [], ◌∷◌, slice_index}
use Rattle.block_layout.specs.declared.layout.Layout.{Layout}
use Rattle.block_layout.specs.Indices.{IsWithin, with_along}
use Rattle.block_layout.specs.Layouts.{cells_along, ghost_layers, widths}
use Rattle.cell_boxes.specs.declared.boxes.BoxIn.{BoxIn}
use Rattle.row_updates.specs.Numbers.{Numbers}
use Rattle.upwind_fluxes.specs.declared.donor.Donor.TheVariants.{Below, Above}
use Rattle.upwind_fluxes.specs.Fluxes.{donor_total, flux_at, is_closed_side}
use Rattle.transport_kernel.specs.Update.{GhostsStay, face_beside, total_at}

-- some layers of the cells of a block
abbrev pub layer_extents : Layout → ℕ → ℕ → List ℕ
layer_extents l axis depth =
    with_along axis depth (slice_index l.cells 0 ∷ slice_index l.cells 1 ∷ slice_index l.cells 2 ∷ [])

-- where layers lie that begin at a cell of the axis, which counts from the first ghost
abbrev pub layer_box : Layout → ℕ → ℕ → BoxIn
layer_box l axis at = record {
  first = 0;
  widths = widths l;
  low = with_along axis at (ghost_layers l 0 ∷ ghost_layers l 1 ∷ ghost_layers l 2 ∷ []);
}

-- a cell's new total so far, the total of the cell below, its own twice, and that of the cell above
abbrev pub beside_numbers : Layout → ℕ → List ℕ → ℕ → List ℕ → Numbers
beside_numbers l axis cells own i = record {
  own = own;
  first = donor_total l Below cells axis (face_beside i axis false);
  second = donor_total l Above cells axis (face_beside i axis false);
  third = donor_total l Below cells axis (face_beside i axis true);
  fourth = donor_total l Above cells axis (face_beside i axis true);
}

-- a cell lies in the layers from one on, below another
pub record IsInLayers (l : Layout) (axis from to : ℕ) (i : List ℕ) : Type 0 where
  pub within : IsWithin l.cells i
  pub least : from ≤ slice_index i axis
  pub most : slice_index i axis < to

-- a rule takes the numbers of the cells of layers
abbrev pub TakesLayers : (Numbers → Type 0) → Layout → ℕ → ℕ → ℕ → List ℕ → List ℕ → Type 0
TakesLayers takes l axis from to cells into =
    (i : List ℕ) → IsInLayers l axis from to i → takes (beside_numbers l axis cells (total_at l into i) i)

-- the cells of layers have become what they are to become, and all others are as they were
pub record HasLayers (becomes : ℕ → List ℕ → ℕ) (l : Layout) (axis from to : ℕ) (old new : List ℕ) : Type 0 where
  pub inside : (i : List ℕ) → IsInLayers l axis from to i → total_at l new i ≡ becomes (total_at l old i) i
  pub outside : (i : List ℕ) → IsWithin l.cells i
      → ((slice_index i axis < from) ⊎ (to ≤ slice_index i axis)) → total_at l new i ≡ total_at l old i
  pub ghosts : GhostsStay l old new

-- a pass along one axis: from which cells, with which rates, and which total of a cell it begins with
pub record AxisPass : Type 0 where
  pub layout : Layout
  pub axis : ℕ
  pub closed : List Bool
  pub cells : List ℕ
  pub begins : ℕ → ℕ → ℕ
  pub right : ℕ
  pub right_denominator : ℕ
  pub left : ℕ
  pub left_denominator : ℕ

-- the pass by such rates and denominators to the right and to the left
abbrev pub axis_pass : Layout → ℕ → List Bool → List ℕ → (ℕ → ℕ → ℕ) → ℕ → ℕ → ℕ → ℕ → AxisPass
axis_pass l axis closed cells begins r d v e = record {
  layout = l;
  axis = axis;
  closed = closed;
  cells = cells;
  begins = begins;
  right = r;
  right_denominator = d;
  left = v;
  left_denominator = e;
}

-- the layers of cells with no closed face begin at one, and end before another
abbrev pub first_open : List Bool → ℕ → ℕ
first_open closed axis = cond (is_closed_side closed axis false) 1 0

abbrev pub end_open : Layout → List Bool → ℕ → ℕ
end_open l closed axis = cells_along l axis - cond (is_closed_side closed axis true) 1 0

-- what passes a face to the right and to the left
abbrev pub to_right : AxisPass → List ℕ → ℕ
to_right x i = flux_at x.layout Below x.right x.right_denominator x.closed x.cells x.axis i

abbrev pub to_left : AxisPass → List ℕ → ℕ
to_left x i = flux_at x.layout Above x.left x.left_denominator x.closed x.cells x.axis i

-- what a cell gains and loses through its two faces
abbrev pub gained : AxisPass → List ℕ → ℕ
gained x i = to_right x (face_beside i x.axis false) + to_left x (face_beside i x.axis true)

abbrev pub lost : AxisPass → List ℕ → ℕ
lost x i = to_left x (face_beside i x.axis false) + to_right x (face_beside i x.axis true)

-- the total that it begins with
abbrev pub begun : AxisPass → ℕ → List ℕ → ℕ
begun x own i = x.begins own (donor_total x.layout Above x.cells x.axis (face_beside i x.axis false))

-- what becomes of a cell
abbrev pub after_axis : AxisPass → ℕ → List ℕ → ℕ
after_axis x own i = begun x own i + gained x i - lost x i

-- no cell of some layers loses more than it begins with, and none comes to 2^63
pub record CanPassLayers (x : AxisPass) (from to : ℕ) (into : List ℕ) : Type 0 where
  pub pays : (i : List ℕ) → IsInLayers x.layout x.axis from to i → lost x i ≤ begun x (total_at x.layout into i) i
  pub small : (i : List ℕ) → IsInLayers x.layout x.axis from to i
      → begun x (total_at x.layout into i) i + gained x i < 2 ^ 63
