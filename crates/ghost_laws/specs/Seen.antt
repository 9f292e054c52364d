-- What is seen in the ghost layers, by what stands behind the side.
use Rattle.std.specs.Prelude.{◌≡◌, ℕ, ◌<◌, ◌≤◌, Bool, Some, None, List}
use Rattle.morton_order.specs.declared.space.Loc.{Loc}
use Rattle.morton_order.specs.Space.{child, child_number, parent}
use Rattle.morton_order.specs.Neighbours.{across}
use Rattle.mesh_rules.specs.Fields.{outside}
use Rattle.block_geometry.specs.Blocks.{FieldBlock, IsFieldBlock}
use Rattle.block_geometry.specs.Contents.{HasInterior}
use Rattle.ghost_laws.specs.Given.{IsBeside, coarser_total, finer_total, same_total}
use Rattle.ghost_laws.specs.Layers.{across_index, on_block, seen_in_layer}
use Rattle.ghost_laws.specs.Refined.{LiesInChild}

-- beyond a face of the domain both layers see what stands outside
abbrev pub OutsideSeen : Type 0
OutsideSeen = (b : FieldBlock) (axis : ℕ) (high : Bool) (i : List ℕ) (layer : ℕ) → IsBeside b axis high i → across b.mesh.shape b.leaf axis high ≡ None →
    seen_in_layer b i axis high layer ≡ outside b.settings b.field axis high b.leaf.level

-- where the block across the side is a leaf, they see what it has in its two layers next to the side
abbrev pub SameSeen : Type 0
SameSeen = (b : FieldBlock) (axis : ℕ) (high : Bool) (o : Loc) (i cells : List ℕ) (layer : ℕ) → IsBeside b axis high i → layer < 2 → across b.mesh.shape b.leaf axis high ≡ Some o →
    IsFieldBlock (on_block b o) → HasInterior (on_block b o) cells →
    seen_in_layer b i axis high layer ≡ same_total b cells (across_index b.mesh axis high layer i)

-- where a child of that block is a leaf, they see the sums of the cells that it has, in the rows that it covers
abbrev pub FinerSeen : Type 0
FinerSeen = (b : FieldBlock) (axis : ℕ) (high : Bool) (o : Loc) (j : ℕ) (i cells : List ℕ) (layer : ℕ) → IsBeside b axis high i → layer < 2 → across b.mesh.shape b.leaf axis high ≡ Some o →
    IsFieldBlock (on_block b (child b.mesh.shape.dims o j)) → HasInterior (on_block b (child b.mesh.shape.dims o j)) cells → LiesInChild b.mesh j (across_index b.mesh axis high layer i) →
    seen_in_layer b i axis high layer ≡ finer_total b cells (across_index b.mesh axis high layer i)

-- where its parent is a leaf, they see their shares of the parent's cells
abbrev pub CoarserSeen : Type 0
CoarserSeen = (b : FieldBlock) (axis : ℕ) (high : Bool) (o : Loc) (i cells : List ℕ) (layer : ℕ) → IsBeside b axis high i → layer < 2 → across b.mesh.shape b.leaf axis high ≡ Some o → 1 ≤ o.level →
    IsFieldBlock (on_block b (parent b.mesh.shape.dims o)) → HasInterior (on_block b (parent b.mesh.shape.dims o)) cells →
    seen_in_layer b i axis high layer ≡ coarser_total b cells (child_number b.mesh.shape.dims o) (across_index b.mesh axis high layer i)
