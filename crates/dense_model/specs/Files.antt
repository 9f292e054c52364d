-- The files of a run so far.
use Rattle.std.specs.Prelude.{◌==◌, ℕ, cond, List, [], ◌++◌}
use Rattle.problem_set.specs.Settings.{Settings}
use Rattle.mesh_rules.specs.Files.{NamedText, dumps_until, history_files}
use Rattle.mesh_rules.specs.Reaction.{kernel_of}
use Rattle.mesh_outside.specs.declared.files.File.{File}

-- a named text as a file
abbrev pub file_of : NamedText → File
file_of f = record { name = f.0; bytes = f.1 }

-- the dumps of the opening and of the cycles up to one, and last the history once all cycles were run
abbrev pub files_until : Settings → List ℕ → ℕ → List NamedText
files_until p prefix cycle = dumps_until p (kernel_of p) prefix cycle ++ cond (cycle == p.nlim) (history_files p (kernel_of p) prefix) []
