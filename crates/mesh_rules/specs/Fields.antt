-- What the settings say of a field, by its number, and of the faces of the domain.
use Rattle.std.specs.Prelude.{ℕ, ◌+◌, ◌*◌, ◌/◌, ◌^◌, pos, Bool, cond, None, [], length, replicate, slice_index}
use Rattle.std.specs.List.{slice_index_or}
use Rattle.package_fields.specs.declared.field.Field.{Field}
use Rattle.package_fields.specs.declared.flag.Flag.TheVariants.{FillGhost, WithFluxes, Sparse}
use Rattle.package_fields.specs.Flags.{has}
use Rattle.problem_set.specs.Settings.{Settings}
use Rattle.problem_set.specs.Rates.{left_rate, right_rate}
use Rattle.deck_entries.specs.declared.entries.Moves.{Moves}
use Rattle.mesh_settings.specs.declared.words.FaceKind.{FaceKind}
use Rattle.mesh_settings.specs.declared.words.FaceKind.TheVariants.{Periodic, Outflow, Reflecting, Inflow}

-- how many fields there are
abbrev pub field_count : Settings → ℕ
field_count p = length p.fields.fields

-- a field by its number; a number that no field has stands for a field without flags
abbrev pub field_at : Settings → ℕ → Field
field_at p f = slice_index_or p.fields.fields f (record { label = []; base = []; id = None; flags = [] })

-- how a field moves
abbrev pub moves_at : Settings → ℕ → Moves
moves_at p f = slice_index_or p.moves f (record { v = replicate 3 (pos 0); k = 0; order = 1; entry = replicate 6 0 })

-- whether blocks may go without a field
abbrev pub is_sparse : Settings → ℕ → Bool
is_sparse p f = has Sparse (field_at p f).flags

-- whether a field's ghost zones are filled
abbrev pub has_ghosts : Settings → ℕ → Bool
has_ghosts p f = has FillGhost (field_at p f).flags

-- whether a field passes through faces
abbrev pub has_fluxes : Settings → ℕ → Bool
has_fluxes p f = has WithFluxes (field_at p f).flags

-- how fast a field passes a face that is normal to an axis, upwards and downwards, as parts of the denominator
pub record FaceRates : Type 0 where
  pub right : ℕ
  pub left : ℕ
  pub denominator : ℕ

-- the rates of a field along an axis at a level
abbrev pub rates_at : Settings → ℕ → ℕ → ℕ → FaceRates
rates_at p f axis level = record {
  right = right_rate (field_at p f) (moves_at p f) axis level;
  left = left_rate (field_at p f) (moves_at p f) axis level;
  denominator = p.denominator;
}

-- the number of a side, of the domain or of a block: x1 low, x1 high, x2 low, x2 high, x3 low, x3 high
abbrev pub side_number : ℕ → Bool → ℕ
side_number axis high = 2 * axis + cond high 1 0

-- what a face of the domain does
abbrev pub kind_at : Settings → ℕ → Bool → FaceKind
kind_at p axis high = slice_index_or p.faces (side_number axis high) Outflow

-- what stands outside of an inflow face at a cell of a level: the field's amount for that face, spread evenly over the cells of
-- a root cell; nothing of a field without ghost zones
abbrev pub entering : Settings → ℕ → ℕ → Bool → ℕ → ℕ
entering p f axis high level = cond (has_ghosts p f) (slice_index (moves_at p f).entry (side_number axis high) / 2 ^ (p.shape.dims * level)) 0

-- of the kinds of faces only an inflow face has something outside
abbrev pub outside_by : FaceKind → ℕ → ℕ
outside_by Inflow amount = amount
outside_by Outflow amount = 0
outside_by Reflecting amount = 0
outside_by Periodic amount = 0

-- a field's total in a cell beyond a face of the domain: 9 at level 0 and 4 at level 1 where 9 stand outside of a row
abbrev pub outside : Settings → ℕ → ℕ → Bool → ℕ → ℕ
outside p f axis high level = outside_by (kind_at p axis high) (entering p f axis high level)
