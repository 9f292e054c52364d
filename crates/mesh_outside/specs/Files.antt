-- Input files by their names.
use Rattle.std.specs.Prelude.{ℕ, List, [], ◌∷◌, Option, Some, None, if◌then◌else◌}
use Rattle.std.specs.Str.{bytes_eq}
use Rattle.mesh_outside.specs.declared.files.File.{File}

-- the bytes under a name: those of the first file that has it
abbrev pub input_of : List File → List ℕ → Option (List ℕ)
input_of [] name = None
input_of (f ∷ fs) name = if bytes_eq f.name name then Some f.bytes else input_of fs name
