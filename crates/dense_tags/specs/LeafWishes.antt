-- For the code: what the lists of a leaf wish.
use Rattle.std.specs.Prelude.{◌≡◌, ℕ, ◌<◌, List, [], ◌∷◌, length, map, slice_index}
use Rattle.std.specs.List.{slice_index_or}
use Rattle.deck_entries.specs.declared.entries.Criterion.{Criterion}
use Rattle.mesh_rules.specs.declared.wish.Wish.{Wish}
use Rattle.mesh_rules.specs.Tags.{at_root, strongest, wish_by}
use Rattle.block_layout.specs.declared.layout.Layout.{Layout}
use Rattle.block_layout.specs.Layouts.{interior_len}
use Rattle.cell_boxes.specs.declared.boxes.BoxIn.{BoxIn}
use Rattle.block_regions.specs.Rows.{whole_box}
use Rattle.dense_mesh.specs.Meshes.{totals_in}
use Rattle.refine_tags.specs.Measures.{measured_in, total_at}

-- each field has a list of all cells of a leaf
pub record HasLeafList (l : Layout) (field : List (List ℕ)) (leaf : ℕ) : Type 0 where
  pub there : leaf < length field
  pub size : length (slice_index_or field leaf []) ≡ interior_len l

abbrev pub HaveLeaf : Layout → List (List (List ℕ)) → ℕ → Type 0
HaveLeaf l lists leaf = (f : ℕ) → f < length lists → HasLeafList l (slice_index_or lists f []) leaf

-- a block's list without ghosts as a box
abbrev pub own_box : Layout → BoxIn
own_box l = whole_box (slice_index l.cells 0 ∷ slice_index l.cells 1 ∷ slice_index l.cells 2 ∷ [])

-- what a criterion wishes by the lists of a leaf
abbrev pub list_wish : Layout → ℕ → List (List (List ℕ)) → ℕ → Criterion → Wish
list_wish l level lists leaf c = wish_by c level (measured_in c.method l level (total_at (totals_in lists c.field leaf) (own_box l)))

-- what the leaf wishes
abbrev pub leaf_wish : List Criterion → Layout → ℕ → List (List (List ℕ)) → ℕ → Wish
leaf_wish criteria l level lists leaf = at_root level (strongest (map (list_wish l level lists leaf) criteria))
