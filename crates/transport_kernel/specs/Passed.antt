-- What passes the faces at one side of a block.
use Rattle.std.specs.Prelude.{ℕ, zero, suc, ◌+◌, Bool, List, [], ◌∷◌, slice_index}
use Rattle.block_layout.specs.declared.layout.Layout.{Layout}
use Rattle.block_layout.specs.Indices.{with_along}
use Rattle.upwind_fluxes.specs.Fluxes.{side_at}
use Rattle.transport_kernel.specs.Update.{listed}

-- the sum of what each number below n gives
abbrev pub sum_below : ℕ → (ℕ → ℕ) → ℕ
sum_below zero each = 0
sum_below (suc n) each = sum_below n each + each n

-- the sum over the indices of a box
abbrev pub sum_box : List ℕ → (List ℕ → ℕ) → ℕ
sum_box n each = sum_below (slice_index n 2) (λ z. sum_below (slice_index n 1) (λ y. sum_below (slice_index n 0) (λ x. each (x ∷ y ∷ z ∷ []))))

-- the faces at a side lie in a box with one of them along the axis
abbrev pub side_faces : Layout → ℕ → List ℕ
side_faces l axis = with_along axis 1 l.cells

-- the index of one of them among the faces of its axis
abbrev pub face_at_side : Layout → ℕ → Bool → List ℕ → List ℕ
face_at_side l axis high i = with_along axis (side_at l axis high) i

-- what passes them together, by the list of one direction
abbrev pub passed_at : Layout → ℕ → Bool → List ℕ → ℕ
passed_at l axis high list = sum_box (side_faces l axis) (λ i. listed l list axis (face_at_side l axis high i))
