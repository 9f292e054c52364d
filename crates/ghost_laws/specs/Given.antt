-- What the lists of leaves give for a cell of a block.
use Rattle.std.specs.Prelude.{◌≡◌, ℕ, ◌<◌, Bool, cond, Option, Some, None, List, slice_index}
use Rattle.mesh_num.specs.Share.{share}
use Rattle.morton_order.specs.declared.space.Loc.{Loc}
use Rattle.morton_order.specs.Space.{child, child_number, parent, parts}
use Rattle.morton_order.specs.Neighbours.{across}
use Rattle.block_tree.specs.Tree.{IsLeaf, is_node}
use Rattle.mesh_rules.specs.Sums.{sum_to}
use Rattle.mesh_rules.specs.Mesh.{is_inner}
use Rattle.mesh_rules.specs.Fields.{outside}
use Rattle.block_layout.specs.Indices.{IsWithin}
use Rattle.block_geometry.specs.Blocks.{FieldBlock, IsAtSide, IsFieldBlock, ghost_place, own_place}
use Rattle.block_geometry.specs.Contents.{HasInterior, SeesAround}
use Rattle.ghost_laws.specs.Layers.{across_index, on_block}
use Rattle.ghost_laws.specs.Refined.{child_at, coarser_index, finer_index, number_in_coarser}

-- the total that the list of the block itself has in a cell
abbrev pub same_total : FieldBlock → List ℕ → List ℕ → ℕ
same_total b list i = slice_index list (own_place b.layout i)

-- the sum of what the list of a child has in the finer cells in it
abbrev pub finer_total : FieldBlock → List ℕ → List ℕ → ℕ
finer_total b list i = sum_to (parts b.mesh.shape.dims) (λ k. slice_index list (own_place b.layout (finer_index b.mesh i k)))

-- its share of what the list of the parent, whose child j the block is, has in the coarser cell that it lies in
abbrev pub coarser_total : FieldBlock → List ℕ → ℕ → List ℕ → ℕ
coarser_total b list j i = share (slice_index list (own_place b.layout (coarser_index b.mesh j i))) (parts b.mesh.shape.dims) (number_in_coarser b.mesh.shape.dims i)

-- what the lists of the leaves give for a cell of any block beside a leaf
abbrev pub given_in : FieldBlock → (Loc → List ℕ) → Loc → List ℕ → ℕ
given_in b lists o i = cond (is_inner b.mesh o)
    (finer_total b (lists (child b.mesh.shape.dims o (child_at b.mesh i))) i)
    (cond (is_node b.mesh.shape (is_inner b.mesh) o) (same_total b (lists o) i) (coarser_total b (lists (parent b.mesh.shape.dims o)) (child_number b.mesh.shape.dims o) i))

-- what they give for a ghost of a layer beyond a side, by the block across it; what stands outside beyond a face of the domain
abbrev pub given_across : FieldBlock → (Loc → List ℕ) → ℕ → Bool → ℕ → List ℕ → Option Loc → ℕ
given_across b lists axis high layer i None = outside b.settings b.field axis high b.leaf.level
given_across b lists axis high layer i (Some o) = given_in b lists o (across_index b.mesh axis high layer i)

-- a cell in the last layer of a block towards a side of an axis in use
pub record IsBeside (b : FieldBlock) (axis : ℕ) (high : Bool) (i : List ℕ) : Type 0 where
  pub sound : IsFieldBlock b
  pub used : axis < b.layout.dims
  pub within : IsWithin b.layout.cells i
  pub at : IsAtSide b.layout axis high i

-- the lists of all leaves have their own cells
abbrev pub HasInteriors : FieldBlock → (Loc → List ℕ) → Type 0
HasInteriors b lists = (l : Loc) → IsLeaf b.mesh.shape (is_inner b.mesh) l → HasInterior (on_block b l) (lists l)

-- each ghost of a block has what the leaves behind its side give
abbrev pub IsFilled : FieldBlock → (Loc → List ℕ) → List ℕ → Type 0
IsFilled b lists cells = (axis : ℕ) (high : Bool) (i : List ℕ) (layer : ℕ) → IsBeside b axis high i → layer < 2 →
    slice_index cells (ghost_place b.layout axis high layer i) ≡ given_across b lists axis high layer i (across b.mesh.shape b.leaf axis high)

-- ghosts that are filled so are the look
abbrev pub FilledSees : Type 0
FilledSees = (b : FieldBlock) (lists : Loc → List ℕ) (cells : List ℕ) → IsFieldBlock b → HasInteriors b lists → IsFilled b lists cells → SeesAround b cells
