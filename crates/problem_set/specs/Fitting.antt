-- Whether the rates of all fields and the sum of all totals fit.
use Rattle.std.specs.Prelude.{◌==◌, ◌*◌, nat_le, if◌then◌else◌, ℕ, Bool, List, [], ◌∷◌, Result, Ok, Err}
use Rattle.package_fields.specs.declared.field.Field.{Field}
use Rattle.deck_values.specs.declared.fault.ProblemFault.{ProblemFault}
use Rattle.deck_values.specs.declared.fault.ProblemFault.TheVariants.{Rates}
use Rattle.deck_entries.specs.declared.entries.Moves.{Moves}
use Rattle.problem_set.specs.Rates.{rate_sum}

-- whether rates of this sum leave every total at least 0: by a scheme of order 2 a cell may count for half as much again
abbrev pub sum_fits : ℕ → ℕ → ℕ → Bool
sum_fits order sum denominator = if order == 2 then nat_le (3 * sum) (2 * denominator) else nat_le sum denominator

-- nothing, where the rates of each field at a level fit; else the first field whose rates do not
abbrev pub rates_fit : ℕ → ℕ → ℕ → List (Field × Moves) → Result (Unit {0}) ProblemFault
rates_fit dims level denominator [] = Ok tt
rates_fit dims level denominator (p ∷ ps) =
    if sum_fits p.1.order (rate_sum dims level p.0 p.1) denominator
    then rates_fit dims level denominator ps
    else Err (Rates p.0.label (rate_sum dims level p.0 p.1))
