-- What stays as it was where the ghosts beyond a side of a block are written.
use Rattle.std.specs.Prelude.{◌≡◌, ◌⊎◌, ℕ, Bool, List, Contains}
use Rattle.morton_order.specs.declared.space.Loc.{Loc}
use Rattle.morton_order.specs.Space.{child_number}
use Rattle.block_tree.specs.Behind.{fine}
use Rattle.block_geometry.specs.Blocks.{FieldBlock}
use Rattle.block_geometry.specs.Contents.{HasInterior, SeesBeyondSide}
use Rattle.block_regions.specs.Written.{StaysOffRegion}
use Rattle.ghost_buffers.specs.declared.part.How.{How}
use Rattle.ghost_buffers.specs.declared.part.How.TheVariants.{Finer}
use Rattle.ghost_buffers.specs.Ghosts.{received}
use Rattle.letter_laws.specs.Sides.{IsSide, SeesBeyondPart, behind_side, side_part}

-- the block's own cells
abbrev pub InteriorStays : Type 0
InteriorStays = (b : FieldBlock) (how : How) (axis : ℕ) (high : Bool) (half : ℕ) (old new : List ℕ) → IsSide b axis → StaysOffRegion b.layout (received how b.layout axis high half) old new → HasInterior b old → HasInterior b new

-- the ghosts beyond another side
abbrev pub SidesStay : Type 0
SidesStay = (b : FieldBlock) (how : How) (axis other : ℕ) (high end : Bool) (half : ℕ) (old new : List ℕ) → IsSide b axis → IsSide b other → (¬ (other ≡ axis)) ⊎ (¬ (end ≡ high)) →
    StaysOffRegion b.layout (received how b.layout axis high half) old new → SeesBeyondSide b old other end → SeesBeyondSide b new other end

-- where a finer leaf gives those of its part of the side, those of the part of another one
abbrev pub PartsStay : Type 0
PartsStay = (b : FieldBlock) (axis : ℕ) (high : Bool) (os : List Loc) (o other : Loc) (old new : List ℕ) → IsSide b axis → behind_side b axis high ≡ fine os → Contains os o → Contains os other → ¬ (other ≡ o) →
    StaysOffRegion b.layout (received Finer b.layout axis high (side_part axis (child_number b.mesh.shape.dims o))) old new →
    SeesBeyondPart b old axis high (child_number b.mesh.shape.dims other) → SeesBeyondPart b new axis high (child_number b.mesh.shape.dims other)
