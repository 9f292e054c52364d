-- What passes the faces of the domain at a block.
use Rattle.std.specs.Prelude.{◌≡◌, ℕ, ◌+◌, Bool, true, false, List, [], ◌∷◌, slice_index}
use Rattle.morton_order.specs.Neighbours.{across}
use Rattle.mesh_rules.specs.Sums.{sum_to}
use Rattle.mesh_rules.specs.Stage.{leaf_inflow, leaf_outflow, when_outside}
use Rattle.block_layout.specs.declared.layout.Layout.{Layout}
use Rattle.block_layout.specs.Indices.{with_along}
use Rattle.block_layout.specs.Layouts.{cells_along}
use Rattle.block_layout.specs.Faces.{face_of}
use Rattle.block_geometry.specs.Blocks.{FieldBlock, IsFieldBlock, end_of}
use Rattle.block_geometry.specs.Contents.{HasPairs}

-- the sum of what each index of a box gives
abbrev pub sum_box : List ℕ → (List ℕ → ℕ) → ℕ
sum_box n each = sum_to (slice_index n 2) (λ z. sum_to (slice_index n 1) (λ y. sum_to (slice_index n 0) (λ x. each (x ∷ y ∷ z ∷ []))))

-- the sum of what a list has at the faces of a block's side
abbrev pub passed_side : Layout → List ℕ → ℕ → Bool → ℕ
passed_side l list axis high = sum_box (with_along axis 1 l.cells) (λ i. slice_index list (face_of l (with_along axis (end_of (cells_along l axis) high) i) axis high))

-- that of a side at a face of the domain, nothing at any other
abbrev pub passed_outside : FieldBlock → List ℕ → ℕ → Bool → ℕ
passed_outside b list axis high = when_outside (across b.mesh.shape b.leaf axis high) (passed_side b.layout list axis high)

-- where the lists of a block have the mesh's pairs, what they have at the faces of the domain is the inflow and the outflow of the leaf:
-- inwards to the right at low sides and to the left at high ones, outwards the other way
pub record HasFlows (b : FieldBlock) (rights lefts : List ℕ) : Type 0 where
  pub inflow : leaf_inflow b.settings b.mesh b.field b.leaf ≡ sum_to b.layout.dims (λ axis. passed_outside b rights axis false + passed_outside b lefts axis true)
  pub outflow : leaf_outflow b.settings b.mesh b.field b.leaf ≡ sum_to b.layout.dims (λ axis. passed_outside b lefts axis false + passed_outside b rights axis true)

abbrev pub DomainFlows : Type 0
DomainFlows = (b : FieldBlock) (right left : List ℕ) → IsFieldBlock b → HasPairs b right left → HasFlows b right left
