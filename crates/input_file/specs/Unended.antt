-- A line that has not ended.
use Rattle.std.specs.Prelude.{◌≡◌, ◌==◌, false}
use Rattle.std.specs.List.{All}
use Rattle.input_file.specs.Texts.{Text}

-- there is no LF in the line
abbrev pub IsUnended : Text → Type 0
IsUnended line = All (λ b. (b == 10) ≡ false) line
