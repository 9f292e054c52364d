-- The keys that the blocks of several kinds share: a part of the mesh, a field's label, an amount.
use Rattle.std.specs.Prelude.{◌≡◌, ◌≤◌, ◌<◌, ◌==◌, ◌-◌, nat_le, not, ℕ, List, [], ◌∷◌, Option, Some, None, Result, Ok, length, slice_index, position, codes}
use Rattle.std.specs.Str.{bytes_eq}
use Rattle.input_file.specs.Texts.{Text}
use Rattle.input_file.specs.Blocks.{Blocks}
use Rattle.package_fields.specs.declared.field.Field.{Field}
use Rattle.deck_values.specs.declared.fault.ProblemFault.{ProblemFault}
use Rattle.deck_values.specs.declared.fault.ProblemFault.TheVariants.{BadValue}
use Rattle.mesh_settings.specs.declared.mesh_part.Part.{Part}
use Rattle.deck_values.specs.Reading.{◌>>=◌, only_if}
use Rattle.deck_values.specs.BlockReader.{value_at, number}
use Rattle.mesh_settings.specs.Limits.{greatest_total}

-- the first and the last cell of a part along an axis of so many cells: by default all cells
unfoldable pub span_at : Blocks → Text → Text → Text → ℕ → Result (ℕ × ℕ) ProblemFault
span_at d block low high cells = do
  l ← number d block low 0 (cells - 1) (Some 0)
  h ← number d block high l (cells - 1) (Some (cells - 1))
  Ok (l, h)

-- a part of the mesh
unfoldable pub part : Blocks → List ℕ → Text → Result Part ProblemFault
part d size block = do
  x1 ← span_at d block (codes "lo1") (codes "hi1") (slice_index size 0)
  x2 ← span_at d block (codes "lo2") (codes "hi2") (slice_index size 1)
  x3 ← span_at d block (codes "lo3") (codes "hi3") (slice_index size 2)
  Ok (record { lo = x1.0 ∷ x2.0 ∷ x3.0 ∷ []; hi = x1.1 ∷ x2.1 ∷ x3.1 ∷ [] })

-- a part of the mesh lies in it along an axis
pub record IsSpan (size lo hi : List ℕ) (axis : ℕ) : Type 0 where
  pub ordered : slice_index lo axis ≤ slice_index hi axis
  pub within : slice_index hi axis < slice_index size axis

-- a part of the mesh lies in it
pub record IsPart (size lo hi : List ℕ) : Type 0 where
  pub three_lo : length lo ≡ 3
  pub three_hi : length hi ≡ 3
  pub along1 : IsSpan size lo hi 0
  pub along2 : IsSpan size lo hi 1
  pub along3 : IsSpan size lo hi 2

-- the number of the field with a label
abbrev pub field_labelled : List Field → Text → Option ℕ
field_labelled fields label = position (λ f. bytes_eq label f.label) fields

unfoldable pub label : Blocks → List Field → Text → Text → Result ℕ ProblemFault
label d fields block key = value_at (field_labelled fields) d block key None

-- the number of a field which is another than the first
unfoldable pub other_label : Blocks → List Field → Text → Text → ℕ → Result ℕ ProblemFault
other_label d fields block key first = do
  second ← label d fields block key
  only_if (not (second == first)) second (BadValue block key)

unfoldable pub amount : Blocks → Text → Text → Result ℕ ProblemFault
amount d block key = number d block key 0 greatest_total None

-- an amount that is at most another
unfoldable pub lower_amount : Blocks → Text → Text → ℕ → Result ℕ ProblemFault
lower_amount d block key most = do
  a ← amount d block key
  only_if (nat_le a most) a (BadValue block key)
