-- The bytes of what is printed.
use Rattle.std.specs.Prelude.{ℕ, List}
use Rattle.mesh_outcome.specs.declared.text.Text.{Text}
use Rattle.mesh_outcome.specs.declared.text.Text.TheVariants.{Fixed, Made}

-- the bytes of a text
abbrev pub bytes_of : Text → List ℕ
bytes_of (Fixed line) = line.now
bytes_of (Made text) = text.items
