-- The files that a run of a problem leaves in a depot, and how it ends.
use Rattle.std.specs.Prelude.{ℕ, true, List, map}
use Rattle.problem_set.specs.Settings.{Settings}
use Rattle.dense_model.specs.RunFiles.{leaves_after, total_after}
use Rattle.mesh_rules.specs.Files as files
use Rattle.mesh_rules.specs.Files.{NamedText, dumps_of_cycle}
use Rattle.mesh_rules.specs.Reaction.{kernel_of}
use Rattle.mesh_outside.specs.declared.files.Gained.{Gained}
use Rattle.mesh_outside.specs.Gained.{file_with}
use Rattle.mesh_driver.specs.declared.run.RunEnd.{RunEnd}

-- a file with its text, finished
abbrev pub whole_file : NamedText → Gained
whole_file f = file_with f.0 f.1 true

-- the files of a problem's run, finished: its dumps, and last the history where it completes
abbrev pub files_of : Settings → List ℕ → List Gained
files_of p prefix = map whole_file (files.files_of p (kernel_of p) prefix)

-- the files of one cycle: its dump, where one is due
abbrev pub files_at : Settings → List ℕ → ℕ → List Gained
files_at p prefix cycle = map whole_file (dumps_of_cycle p (kernel_of p) prefix cycle)

-- how a problem's run ends: its number of cycles, its leaves then, and what all totals add up to
abbrev pub end_of : Settings → RunEnd
end_of p = record { cycles = p.nlim; blocks = leaves_after p p.nlim; total = total_after p p.nlim }
