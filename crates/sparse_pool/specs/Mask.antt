-- Which blocks hold which fields: for each field a list with an entry for each block.
use Rattle.std.specs.Prelude.{◌<◌, ℕ, Bool, false, List, [], length, replicate, count_by, slice_index_or, slice_set}
use Rattle.sparse_pool.specs.declared.place.Place.{Place}

-- the blocks that hold a field
abbrev pub blocks_of : List (List Bool) → ℕ → List Bool
blocks_of mask field = slice_index_or mask field []

-- whether a block holds a field; places out of range are held by none
abbrev pub holds : List (List Bool) → Place → Bool
holds mask at = slice_index_or (blocks_of mask at.field) at.block false

-- no place is held
abbrev pub nowhere : ℕ → ℕ → List (List Bool)
nowhere blocks fields = replicate fields (replicate blocks false)

-- the mask in which a place is held, or not, and all others are as before
abbrev pub with_place : List (List Bool) → Place → Bool → List (List Bool)
with_place mask at held = slice_set mask at.field (slice_set (blocks_of mask at.field) at.block held)

-- on how many blocks a field is held
abbrev pub count_of : List (List Bool) → ℕ → ℕ
count_of mask field = count_by (λ held. held) (blocks_of mask field)

-- a place with a field of the mask and a block of it
pub record IsWithin (mask : List (List Bool)) (at : Place) : Type 0 where
  pub field : at.field < length mask
  pub block : at.block < length (blocks_of mask at.field)
