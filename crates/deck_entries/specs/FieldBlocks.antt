-- The blocks that declare fields.
use Rattle.std.specs.Prelude.{if◌then◌else◌, drop, nat_eq, option_and_then, ℕ, ℤ, pos, List, [], ◌∷◌, map, Option, Some, None, Result, Ok, Err, codes}
use Rattle.std.specs.List.{starts_with}
use Rattle.input_file.specs.Texts.{Text}
use Rattle.input_file.specs.Blocks.{Blocks, entry}
use Rattle.sparse_pool.specs.Label.{label as pool_label}
use Rattle.package_fields.specs.declared.field.Field.{Field}
use Rattle.package_fields.specs.declared.flag.Flag.{Flag}
use Rattle.package_fields.specs.declared.flag.Flag.TheVariants.{Cell, Independent, FillGhost, WithFluxes, Sparse}
use Rattle.package_fields.specs.declared.fault.FieldFault.TheVariants.{BadFlags}
use Rattle.package_fields.specs.Flags.{has}
use Rattle.deck_values.specs.declared.fault.ProblemFault.{ProblemFault}
use Rattle.deck_values.specs.declared.fault.ProblemFault.TheVariants.{BadValue, Fields}
use Rattle.deck_entries.specs.declared.entries.Moves.{Moves}
use Rattle.deck_entries.specs.declared.field_blocks.FieldBlock.{FieldBlock}
use Rattle.deck_values.specs.Reading.{◌>>=◌, or_fault}
use Rattle.deck_values.specs.Numbers.{is_name}
use Rattle.deck_values.specs.BlockReader.{value_at, number, signed, is_within}
use Rattle.deck_values.specs.FlagsAndIds.{flags_of, ids_of}
use Rattle.mesh_settings.specs.Limits.{greatest_factor, greatest_total}

-- a name as it is, where it is one
abbrev pub name_form : Text → Option Text
name_form text = if is_name text then Some text else None

-- what stands behind `field/`
abbrev pub behind_field : Text → Option Text
behind_field block = if starts_with nat_eq block (codes "field/") then Some (drop 6 block) else None

-- the name of the field, or of the pool
unfoldable pub field_name : Text → Result Text ProblemFault
field_name block = or_fault (option_and_then name_form (behind_field block)) (BadValue block (codes "name"))

-- the package that owns the field
unfoldable pub package_name : Blocks → Text → Result Text ProblemFault
package_name d block = value_at name_form d block (codes "package") (Some (codes "transport"))

-- the flags of a field where the key is absent
abbrev pub default_flags : List Flag
default_flags = Cell ∷ Independent ∷ FillGhost ∷ WithFluxes ∷ []

-- unknown flags are a fault of the field
abbrev pub flags_in : Text → Option Text → Result (List Flag) ProblemFault
flags_in name None = Ok default_flags
flags_in name (Some text) = or_fault (flags_of text) (Fields (BadFlags name))

unfoldable pub flags : Blocks → Text → Text → Result (List Flag) ProblemFault
flags d block name = flags_in name (entry d block (codes "flags"))

-- a key that may not be there
abbrev pub absent_in : Text → Text → Option Text → Result (List ℕ) ProblemFault
absent_in block key None = Ok []
absent_in block key (Some text) = Err (BadValue block key)

-- the ids of a sparse field, which other fields do not have
unfoldable pub ids : Blocks → Text → List Flag → Result (List ℕ) ProblemFault
ids d block f =
    if has Sparse f
    then value_at ids_of d block (codes "ids") None
    else absent_in block (codes "ids") (entry d block (codes "ids"))

unfoldable pub speed : Blocks → Text → Text → Result ℤ ProblemFault
speed d block key = signed d block key (is_within greatest_factor) (Some (pos 0))

-- the order of the scheme that moves the field
unfoldable pub order : Blocks → Text → Result ℕ ProblemFault
order d block = number d block (codes "order") 1 2 (Some 1)

unfoldable pub spread : Blocks → Text → Result ℕ ProblemFault
spread d block = number d block (codes "k") 0 greatest_factor (Some 0)

-- the amount outside of a face
unfoldable pub entry_amount : Blocks → Text → Text → Result ℕ ProblemFault
entry_amount d block key = number d block key 0 greatest_total (Some 0)

-- the velocity along each axis
unfoldable pub speeds : Blocks → Text → Result (List ℤ) ProblemFault
speeds d block = do
  v1 ← speed d block (codes "v1")
  v2 ← speed d block (codes "v2")
  v3 ← speed d block (codes "v3")
  Ok (v1 ∷ v2 ∷ v3 ∷ [])

-- the amounts outside of the low and the high face of an axis
unfoldable pub entry_pair : Blocks → Text → Text → Text → Result (ℕ × ℕ) ProblemFault
entry_pair d block low high = do
  l ← entry_amount d block low
  h ← entry_amount d block high
  Ok (l, h)

-- the amounts outside of the low and the high face of x1, of x2 and of x3
unfoldable pub entry_amounts : Blocks → Text → Result (List ℕ) ProblemFault
entry_amounts d block = do
  x1 ← entry_pair d block (codes "ix1_in") (codes "ox1_in")
  x2 ← entry_pair d block (codes "ix2_in") (codes "ox2_in")
  x3 ← entry_pair d block (codes "ix3_in") (codes "ox3_in")
  Ok (x1.0 ∷ x1.1 ∷ x2.0 ∷ x2.1 ∷ x3.0 ∷ x3.1 ∷ [])

-- how the field moves
unfoldable pub moves : Blocks → Text → Result Moves ProblemFault
moves d block = do
  v ← speeds d block
  k ← spread d block
  o ← order d block
  a ← entry_amounts d block
  Ok (record { v = v; k = k; order = o; entry = a })

-- the flags of a field, and its ids
unfoldable pub flags_and_ids : Blocks → Text → Text → Result (List Flag × List ℕ) ProblemFault
flags_and_ids d block name = do
  f ← flags d block name
  i ← ids d block f
  Ok (f, i)

-- what a field block says
unfoldable pub field_block : Blocks → Text → Result FieldBlock ProblemFault
field_block d block = do
  n ← field_name block
  o ← package_name d block
  f ← flags_and_ids d block n
  m ← moves d block
  Ok (record { name = n; package_name = o; flags = f.0; ids = f.1; moves = m })

-- the field of a pool with an id
abbrev pub pool_field : Text → List Flag → ℕ → Field
pool_field name f id = record { label = pool_label name id; base = name; id = Some id; flags = f }

-- the field that is in no pool
abbrev pub dense_field : Text → List Flag → Field
dense_field name f = record { label = name; base = name; id = None; flags = f }

-- the fields that a block declares: one for each id by rising id, or one
abbrev pub fields_of : FieldBlock → List Field
fields_of b = if has Sparse b.flags then map (pool_field b.name b.flags) b.ids else dense_field b.name b.flags ∷ []
