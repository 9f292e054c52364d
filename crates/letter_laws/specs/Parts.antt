-- What a sender makes of its cells is the mesh's region.
use Rattle.std.specs.Prelude.{◌≡◌, ℕ, Bool, not, List, Contains}
use Rattle.morton_order.specs.declared.space.Loc.{Loc}
use Rattle.morton_order.specs.Space.{child_number}
use Rattle.block_tree.specs.Behind.{coarse, fine, same}
use Rattle.mesh_rules.specs.Regions.{region}
use Rattle.block_geometry.specs.Blocks.{FieldBlock}
use Rattle.block_geometry.specs.Contents.{HasInterior}
use Rattle.ghost_laws.specs.Layers.{on_block}
use Rattle.ghost_buffers.specs.declared.part.How.TheVariants.{Same, Finer, Coarser}
use Rattle.ghost_buffers.specs.Parts.{part_of}
use Rattle.letter_laws.specs.Sides.{IsSide, behind_side, side_part}

-- of a leaf of the same level
abbrev pub SameSends : Type 0
SameSends = (b : FieldBlock) (axis : ℕ) (high : Bool) (o : Loc) (half : ℕ) (cells : List ℕ) → IsSide b axis → behind_side b axis high ≡ same o → HasInterior (on_block b o) cells →
    part_of Same b.layout axis (not high) half cells ≡ region b.mesh b.field o b.leaf axis high

-- of each of the finer leaves
abbrev pub FinerSends : Type 0
FinerSends = (b : FieldBlock) (axis : ℕ) (high : Bool) (os : List Loc) (o : Loc) (half : ℕ) (cells : List ℕ) → IsSide b axis → behind_side b axis high ≡ fine os → Contains os o → HasInterior (on_block b o) cells →
    part_of Finer b.layout axis (not high) half cells ≡ region b.mesh b.field o b.leaf axis high

-- of a coarser leaf, over the part of its side that the receiver covers
abbrev pub CoarserSends : Type 0
CoarserSends = (b : FieldBlock) (axis : ℕ) (high : Bool) (o : Loc) (cells : List ℕ) → IsSide b axis → behind_side b axis high ≡ coarse o → HasInterior (on_block b o) cells →
    part_of Coarser b.layout axis (not high) (side_part axis (child_number b.mesh.shape.dims b.leaf)) cells ≡ region b.mesh b.field o b.leaf axis high
