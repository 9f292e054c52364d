-- The ghosts that the regions of senders give are the look.
use Rattle.std.specs.Prelude.{◌≡◌, ℕ, Bool, List, Contains}
use Rattle.morton_order.specs.declared.space.Loc.{Loc}
use Rattle.morton_order.specs.Space.{child_number}
use Rattle.block_tree.specs.Behind.{coarse, fine, outside, same}
use Rattle.mesh_rules.specs.Fields as fields
use Rattle.mesh_rules.specs.Regions.{region}
use Rattle.block_layout.specs.Regions.{ghosts}
use Rattle.block_geometry.specs.Blocks.{FieldBlock}
use Rattle.block_geometry.specs.Contents.{SeesBeyondSide}
use Rattle.block_regions.specs.Written.{HasRegion}
use Rattle.ghost_buffers.specs.declared.part.How.{How}
use Rattle.ghost_buffers.specs.declared.part.How.TheVariants.{Same, Finer, Coarser}
use Rattle.ghost_buffers.specs.Ghosts.{ghost_cell, received}
use Rattle.letter_laws.specs.Sides.{IsSide, SeesBeyondPart, behind_side, side_part}

-- the ghosts of a leaf beyond a side, in a part of it, have what a part of a letter gives
abbrev pub IsGiven : How → FieldBlock → ℕ → Bool → ℕ → List ℕ → List ℕ → Type 0
IsGiven how b axis high half part cells = HasRegion b.layout (received how b.layout axis high half) (ghost_cell how b.layout axis part) cells

-- beyond a face of the domain, where they have what stands outside
abbrev pub OutsideSees : Type 0
OutsideSees = (b : FieldBlock) (axis : ℕ) (high : Bool) (cells : List ℕ) → IsSide b axis → behind_side b axis high ≡ outside →
    HasRegion b.layout (ghosts b.layout axis high) (λ _. fields.outside b.settings b.field axis high b.leaf.level) cells → SeesBeyondSide b cells axis high

-- behind the side stands a leaf of the same level
abbrev pub SameSees : Type 0
SameSees = (b : FieldBlock) (axis : ℕ) (high : Bool) (o : Loc) (half : ℕ) (cells : List ℕ) → IsSide b axis → behind_side b axis high ≡ same o →
    IsGiven Same b axis high half (region b.mesh b.field o b.leaf axis high) cells → SeesBeyondSide b cells axis high

-- one of the finer leaves there, which covers a part of the side
abbrev pub FinerSees : Type 0
FinerSees = (b : FieldBlock) (axis : ℕ) (high : Bool) (os : List Loc) (o : Loc) (cells : List ℕ) → IsSide b axis → behind_side b axis high ≡ fine os → Contains os o →
    IsGiven Finer b axis high (side_part axis (child_number b.mesh.shape.dims o)) (region b.mesh b.field o b.leaf axis high) cells → SeesBeyondPart b cells axis high (child_number b.mesh.shape.dims o)

-- all of them
abbrev pub FinerCovers : Type 0
FinerCovers = (b : FieldBlock) (axis : ℕ) (high : Bool) (os : List Loc) (cells : List ℕ) → IsSide b axis → behind_side b axis high ≡ fine os →
    ((o : Loc) → Contains os o → SeesBeyondPart b cells axis high (child_number b.mesh.shape.dims o)) → SeesBeyondSide b cells axis high

-- a coarser leaf
abbrev pub CoarserSees : Type 0
CoarserSees = (b : FieldBlock) (axis : ℕ) (high : Bool) (o : Loc) (half : ℕ) (cells : List ℕ) → IsSide b axis → behind_side b axis high ≡ coarse o →
    IsGiven Coarser b axis high half (region b.mesh b.field o b.leaf axis high) cells → SeesBeyondSide b cells axis high
