-- What filling the ghosts beyond a side of a leaf leaves.
use Rattle.std.specs.Prelude.{◌≡◌, ◌⊎◌, ℕ, ◌<◌, Bool, List, Contains}
use Rattle.morton_order.specs.declared.space.Loc.{Loc}
use Rattle.morton_order.specs.declared.space.Side.{Side}
use Rattle.morton_order.specs.Space.{child_number}
use Rattle.block_tree.specs.Behind.{Behind, coarse, fine, same}
use Rattle.mesh_rules.specs.Mask.{comes_across}
use Rattle.mesh_rules.specs.Regions.{region}
use Rattle.block_geometry.specs.Contents.{SeesBeyondSide}
use Rattle.block_regions.specs.Written.{StaysOffRegion}
use Rattle.ghost_buffers.specs.declared.part.How.{How}
use Rattle.ghost_buffers.specs.declared.part.How.TheVariants.{Same, Finer, Coarser}
use Rattle.ghost_buffers.specs.Ghosts.{received}
use Rattle.dense_mesh.specs.Ghosts.{list_at}
use Rattle.letter_laws.specs.Sides.{behind_side, side_part}
use Rattle.letter_laws.specs.Ghosts.{IsGiven}
use Rattle.dense_exchange.specs.declared.field_mesh.FieldMesh.{FieldMesh}
use Rattle.dense_exchange.specs.FieldMeshes.{HoldOwn, block_on, leaf_on, mesh_in, settings_in}

-- what stands behind a side of a leaf
abbrev pub behind_leaf : FieldMesh → Side → ℕ → Behind
behind_leaf e side to = behind_side (block_on e to) side.axis side.high

-- whether something above the threshold comes to a leaf across a side
abbrev pub comes_beyond : FieldMesh → Side → ℕ → Bool
comes_beyond e side to = comes_across (settings_in e) (mesh_in e) e.field (leaf_on e to) side.axis side.high (behind_leaf e side to)

-- what a leaf sends to another one across a side of it
abbrev pub sent_to : FieldMesh → Side → ℕ → ℕ → List ℕ
sent_to e side from to = region (mesh_in e) e.field (leaf_on e from) (leaf_on e to) side.axis side.high

-- which part of a side a leaf covers beside a coarser one
abbrev pub part_on : FieldMesh → Side → ℕ → ℕ
part_on e side leaf = side_part side.axis (child_number (mesh_in e).shape.dims (leaf_on e leaf))

-- a leaf stands behind a side of another one; between a finer and a coarser one the number is that of the part of the side
abbrev pub IsSender : FieldMesh → How → ℕ → Side → ℕ → ℕ → Type 0
IsSender e Same half side from to = behind_leaf e side to ≡ same (leaf_on e from)
IsSender e Finer half side from to = (os : List Loc) × (behind_leaf e side to ≡ fine os) × Contains os (leaf_on e from) × (half ≡ part_on e side from)
IsSender e Coarser half side from to = (behind_leaf e side to ≡ coarse (leaf_on e from)) × (half ≡ part_on e side to)

-- the lists of all leaves but one are as they were
abbrev pub OthersStay : ℕ → List (List ℕ) → List (List ℕ) → Type 0
OthersStay to old new = (leaf : ℕ) → ¬ (leaf ≡ to) → list_at new leaf ≡ list_at old leaf

-- what a sender sends was received in the ghosts of a leaf
pub record IsReceived (e : FieldMesh) (how : How) (half : ℕ) (side : Side) (from to : ℕ) (old new : List (List ℕ)) : Type 0 where
  pub held : HoldOwn e new
  pub others : OthersStay to old new
  pub given : IsGiven how (block_on e to) side.axis side.high half (sent_to e side from to) (list_at new to)
  pub stays : StaysOffRegion e.layout.now (received how e.layout.now side.axis side.high half) (list_at old to) (list_at new to)

-- what a leaf sees beyond one side of an axis in use is seen after as before
abbrev pub StillSees : FieldMesh → ℕ → List (List ℕ) → List (List ℕ) → ℕ → Bool → Type 0
StillSees e to old new axis high = SeesBeyondSide (block_on e to) (list_at old to) axis high → SeesBeyondSide (block_on e to) (list_at new to) axis high

-- the ghosts beyond a side of a leaf were filled; those beyond its other sides stay
pub record IsFilled (e : FieldMesh) (side : Side) (to : ℕ) (old new : List (List ℕ)) : Type 0 where
  pub held : HoldOwn e new
  pub others : OthersStay to old new
  pub sees : SeesBeyondSide (block_on e to) (list_at new to) side.axis side.high
  pub stays : (axis : ℕ) (high : Bool) → axis < e.layout.now.dims → (¬ (axis ≡ side.axis)) ⊎ (¬ (high ≡ side.high)) → StillSees e to old new axis high
