-- The static boxes, opening boxes, reactions and criteria of a deck.
use Rattle.std.specs.Prelude.{◌-◌, ℕ, List, Some, None, Result, Ok, codes}
use Rattle.input_file.specs.Texts.{Text}
use Rattle.input_file.specs.Blocks.{Blocks}
use Rattle.package_fields.specs.declared.field.Field.{Field}
use Rattle.mesh_settings.specs.declared.words.Method.{Method}
use Rattle.deck_values.specs.declared.fault.ProblemFault.{ProblemFault}
use Rattle.deck_entries.specs.declared.entries.StaticAt.{StaticAt}
use Rattle.deck_entries.specs.declared.entries.StartBox.{StartBox}
use Rattle.deck_entries.specs.declared.entries.Reaction.{Reaction}
use Rattle.deck_entries.specs.declared.entries.Criterion.{Criterion}
use Rattle.deck_values.specs.Reading.{◌>>=◌}
use Rattle.deck_values.specs.BlockReader.{value_at, number}
use Rattle.mesh_settings.specs.Words.{method_named}
use Rattle.mesh_settings.specs.MeshPart.{part, label, other_label, amount, lower_amount}
use Rattle.mesh_settings.specs.Limits.{greatest_factor}

-- a static box
unfoldable pub static_at : Blocks → List ℕ → ℕ → Text → Result StaticAt ProblemFault
static_at d size levels block = do
  level ← number d block (codes "level") 1 (levels - 1) None
  p ← part d size block
  Ok (record { level = level; lo = p.lo; hi = p.hi })

-- an opening box
unfoldable pub start_box : Blocks → List ℕ → List Field → Text → Result StartBox ProblemFault
start_box d size fields block = do
  field ← label d fields block (codes "field")
  p ← part d size block
  a ← amount d block (codes "amount")
  Ok (record { field = field; lo = p.lo; hi = p.hi; amount = a })

-- a reaction
unfoldable pub reaction : Blocks → List Field → Text → Result Reaction ProblemFault
reaction d fields block = do
  from ← label d fields block (codes "from")
  to ← other_label d fields block (codes "to") from
  den ← number d block (codes "den") 1 greatest_factor None
  num ← number d block (codes "num") 0 den None
  Ok (record { from = from; to = to; num = num; den = den })

unfoldable pub method : Blocks → Text → Result Method ProblemFault
method d block = value_at method_named d block (codes "method") None

-- both tolerances
unfoldable pub tolerances : Blocks → Text → Result (ℕ × ℕ) ProblemFault
tolerances d block = do
  r ← amount d block (codes "refine_tol")
  m ← lower_amount d block (codes "derefine_tol") r
  Ok (r, m)

-- a criterion
unfoldable pub criterion : Blocks → ℕ → List Field → Text → Result Criterion ProblemFault
criterion d levels fields block = do
  field ← label d fields block (codes "field")
  m ← method d block
  t ← tolerances d block
  level ← number d block (codes "max_level") 0 (levels - 1) (Some (levels - 1))
  Ok (record { field = field; method = m; refine_tol = t.0; derefine_tol = t.1; max_level = level })
