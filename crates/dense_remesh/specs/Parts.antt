-- For the code: what a leaf of a next tree takes from the lists of old leaves.
use Rattle.std.specs.Prelude.{◌≡◌, ℕ, ◌*◌, ◌/◌, ◌%◌, ◌<◌, ◌^◌, Option, Some, None, List, [], ◌∷◌, length, slice_index}
use Rattle.std.specs.List.{slice_index_or}
use Rattle.morton_order.specs.declared.space.Loc.{Loc}
use Rattle.morton_order.specs.Space.{child_number, factor, parts}
use Rattle.block_layout.specs.declared.layout.Layout.{Layout}
use Rattle.block_layout.specs.Layouts.{interior_len}
use Rattle.cell_boxes.specs.declared.boxes.BoxIn.{BoxIn}
use Rattle.block_regions.specs.Rows.{whole_box}
use Rattle.restrict_prolong.specs.Refined.{factors}
use Rattle.restrict_prolong.specs.Boxes.{HasShares, HasSums, SumsBelow}
use Rattle.dense_remesh.specs.declared.origins.Origin.{Origin}
use Rattle.dense_remesh.specs.declared.origins.Origin.TheVariants.{Leaf, Parent, Children}

-- the cells along an axis that a child of a block covers
abbrev pub half_along : Layout → ℕ → ℕ
half_along l axis = slice_index l.cells axis / factor l.dims axis

-- and along each axis
abbrev pub half_cells : Layout → List ℕ
half_cells l = half_along l 0 ∷ half_along l 1 ∷ half_along l 2 ∷ []

-- the first of the cells that the child of a number covers
abbrev pub part_low : Layout → ℕ → List ℕ
part_low l j = (j % factor l.dims 0 * half_along l 0) ∷ (j / 2 % factor l.dims 1 * half_along l 1) ∷ (j / 4 % factor l.dims 2 * half_along l 2) ∷ []

-- where these cells lie in the list of the block
abbrev pub part_box : Layout → ℕ → BoxIn
part_box l j = record { first = 0; widths = l.cells; low = part_low l j }

-- the list of a leaf, by its number
abbrev pub list_of : List (List ℕ) → Option ℕ → List ℕ
list_of field None = []
list_of field (Some leaf) = slice_index_or field leaf []

-- the list of a child
abbrev pub child_list : List (List ℕ) → List (Option ℕ) → ℕ → List ℕ
child_list field numbers j = list_of field (slice_index_or numbers j None)

-- a list of a leaf that has all its cells
pub record IsLeafList (l : Layout) (field : List (List ℕ)) (leaf : ℕ) : Type 0 where
  pub there : leaf < length field
  pub size : length (slice_index_or field leaf []) ≡ interior_len l

-- and whose cells add up to few in each cell of the parent
abbrev pub IsChildList : Layout → List (List ℕ) → Option ℕ → Type 0
IsChildList l field None = ⊥
IsChildList l field (Some leaf) = IsLeafList l field leaf × SumsBelow (2 ^ 62) (factors l.dims) (half_cells l) (slice_index_or field leaf []) (whole_box l.cells)

-- old leaves have the lists that a new one needs
abbrev pub CanTake : Layout → List (List ℕ) → Origin → Type 0
CanTake l field (Leaf leaf) = IsLeafList l field leaf
CanTake l field (Parent leaf) = IsLeafList l field leaf
CanTake l field (Children numbers) = (j : ℕ) → j < parts l.dims → IsChildList l field (slice_index_or numbers j None)

-- the sums of what the lists of all children have, in the cells that they cover
abbrev pub HasChildSums : Layout → List (List ℕ) → List (Option ℕ) → ℕ → List ℕ → Type 0
HasChildSums l field numbers count list = (j : ℕ) → j < count → HasSums (factors l.dims) (half_cells l) (child_list field numbers j) (whole_box l.cells) list (part_box l j)

-- the shares of what the list of the parent has, in the cells of its child of a number
abbrev pub HasParentShares : Layout → List ℕ → ℕ → List ℕ → Type 0
HasParentShares l coarse j list = HasShares l.dims l.cells coarse (part_box l j) list (whole_box l.cells)

-- the list of a new leaf: as it was, by shares, or by sums
abbrev pub IsTaken : Layout → List (List ℕ) → Loc → Origin → List ℕ → Type 0
IsTaken l field at (Leaf leaf) list = list ≡ slice_index_or field leaf []
IsTaken l field at (Parent leaf) list = (length list ≡ interior_len l) × HasParentShares l (slice_index_or field leaf []) (child_number l.dims at) list
IsTaken l field at (Children numbers) list = (length list ≡ interior_len l) × HasChildSums l field numbers (parts l.dims) list

-- and of each
pub record AreTaken (l : Layout) (field : List (List ℕ)) (places : List Loc) (origins : List Origin) (lists : List (List ℕ)) : Type 0 where
  pub count : length lists ≡ length places
  pub each : (k : ℕ) (d : Loc) (e : Origin) → k < length places → IsTaken l field (slice_index_or places k d) (slice_index_or origins k e) (slice_index_or lists k [])
