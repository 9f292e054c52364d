-- What is stored at an index of a leaf.
use Rattle.std.proofs.Common.{◌≡◌, ℕ, ◌<◌, List, [], ◌∷◌, length, ap, sym, ◌∙◌, slice_index}
use Rattle.morton_order.specs.declared.space.Loc.{Loc}
use Rattle.mesh_rules.specs.Mesh.{IsMesh, Mesh, stored, totals_on}
use Rattle.block_layout.specs.Laws.{IsSame}
use Rattle.block_layout.specs.Indices.{IsWithin, index_of, number_of}
use Rattle.block_layout.proofs.Boxes.{number_bound, number_index}
use Rattle.block_geometry.specs.Blocks.{cell_in}
use Rattle.dense_mask.proofs.Leaves.{leaf_at, stored_on_leaf}

-- the cell of a leaf at an index
pub cell_is : (m : Mesh) (o : Loc) (i j : List ℕ) → IsSame i j → cell_in m o i ≡ cell_in m o j
cell_is m o i j s =
    let f : ℕ → ℕ → ℕ → Loc = λ a b c. cell_in m o (a ∷ b ∷ c ∷ []) in
    ap (λ a. f a (slice_index i 1) (slice_index i 2)) s.along1 ∙ ap (λ b. f (slice_index j 0) b (slice_index i 2)) s.along2 ∙ ap (f (slice_index j 0) (slice_index j 1)) s.along3

pub stored_at_index : (m : Mesh) → IsMesh m → (f b : ℕ) (i : List ℕ) → b < length m.leaves → IsWithin m.cells i → stored m f (cell_in m (leaf_at m b) i) ≡ slice_index (totals_on m b f) (number_of m.cells i)
stored_at_index m mesh f b i few w =
    ap (stored m f) (sym (cell_is m (leaf_at m b) (index_of m.cells (number_of m.cells i)) i (number_index m.cells i w)))
    ∙ stored_on_leaf m mesh f b (number_of m.cells i) few (number_bound m.cells i w)
