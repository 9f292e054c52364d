-- For the code: rates and multipliers that were made.
use Rattle.problem_set.specs.Settings.{Settings}
use Rattle.leaf_stages.specs.Rates.{AreLevelPortions}
use Rattle.stage_tasks.specs.declared.portions.FieldPortions.{FieldPortions}

-- they are those of their field
abbrev pub IsMade : Settings → FieldPortions → Type 0
IsMade p x = AreLevelPortions p x.field x.portions
