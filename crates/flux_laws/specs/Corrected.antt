-- The pairs at faces behind which finer cells are stored.
use Rattle.std.specs.Prelude.{◌≡◌, ℕ, Bool, not, Some, List, IsTrue, slice_index}
use Rattle.morton_order.specs.declared.space.Loc.{Loc}
use Rattle.morton_order.specs.Space.{child}
use Rattle.morton_order.specs.Neighbours.{across}
use Rattle.block_tree.specs.Behind.{children_at}
use Rattle.block_tree.specs.Tree.{IsLeaf}
use Rattle.mesh_rules.specs.Mesh.{is_inner}
use Rattle.mesh_rules.specs.Faces.{Pair, sum_pairs}
use Rattle.block_layout.specs.declared.layout.Layout.{Layout}
use Rattle.block_layout.specs.Faces.{face_of}
use Rattle.block_geometry.specs.Blocks.{FieldBlock, IsFieldBlock}
use Rattle.block_geometry.specs.Contents.{HasOwnPairs, HasPair, HasPairs, pair_of}
use Rattle.ghost_laws.specs.Layers.{across_index, on_block}
use Rattle.ghost_laws.specs.Refined.{LiesInChild, child_at, finer_index}
use Rattle.ghost_laws.specs.Given.{IsBeside}

-- the pair that the lists of what passes to the right and to the left have at a face of a cell
abbrev pub listed_pair : Layout → List ℕ → List ℕ → List ℕ → ℕ → Bool → Pair
listed_pair l right left i axis high = record { right = slice_index right (face_of l i axis high); left = slice_index left (face_of l i axis high) }

-- where a child of the block across a side is a leaf, the pairs at the faces that it covers are the sums of its own: of the pairs
-- that its lists have at the faces, on its own opposite side, of the finer cells behind each of them
abbrev pub CoarsePairs : Type 0
CoarsePairs = (b : FieldBlock) (axis : ℕ) (high : Bool) (o : Loc) (j : ℕ) (i right left : List ℕ) → IsBeside b axis high i → across b.mesh.shape b.leaf axis high ≡ Some o →
    IsFieldBlock (on_block b (child b.mesh.shape.dims o j)) → HasOwnPairs (on_block b (child b.mesh.shape.dims o j)) right left → LiesInChild b.mesh j (across_index b.mesh axis high 0 i) →
    pair_of b i axis high ≡ sum_pairs (children_at b.mesh.shape.dims axis (not high)) (λ k. listed_pair b.layout right left (finer_index b.mesh (across_index b.mesh axis high 0 i) k) axis (not high))

-- the lists of all leaves have the pairs of the mesh at their own faces, but for those behind which finer cells are stored
abbrev pub HaveOwnPairs : FieldBlock → (Loc → List ℕ) → (Loc → List ℕ) → Type 0
HaveOwnPairs b rights lefts = (l : Loc) → IsLeaf b.mesh.shape (is_inner b.mesh) l → HasOwnPairs (on_block b l) (rights l) (lefts l)

-- the sums of what the lists of the finer leaf which covers a face, a child of the block across, have behind it
abbrev pub finer_sums : FieldBlock → (Loc → List ℕ) → (Loc → List ℕ) → ℕ → Bool → Loc → List ℕ → Pair
finer_sums b rights lefts axis high o i =
    let from = child b.mesh.shape.dims o (child_at b.mesh (across_index b.mesh axis high 0 i)) in
    sum_pairs (children_at b.mesh.shape.dims axis (not high)) (λ k. listed_pair b.layout (rights from) (lefts from) (finer_index b.mesh (across_index b.mesh axis high 0 i) k) axis (not high))

-- the lists of a block have these sums at each face on a side behind which finer leaves stand
abbrev pub IsCorrected : FieldBlock → (Loc → List ℕ) → (Loc → List ℕ) → List ℕ → List ℕ → Type 0
IsCorrected b rights lefts right left = (axis : ℕ) (high : Bool) (o : Loc) (i : List ℕ) → IsBeside b axis high i → across b.mesh.shape b.leaf axis high ≡ Some o → IsTrue (is_inner b.mesh o) →
    HasPair b.layout right left i axis high (finer_sums b rights lefts axis high o i)

-- lists that have their own pairs, and are corrected, have the pairs of the mesh at all faces
abbrev pub CorrectedPairs : Type 0
CorrectedPairs = (b : FieldBlock) (rights lefts : Loc → List ℕ) (right left : List ℕ) → IsFieldBlock b → HaveOwnPairs b rights lefts → HasOwnPairs b right left → IsCorrected b rights lefts right left → HasPairs b right left
