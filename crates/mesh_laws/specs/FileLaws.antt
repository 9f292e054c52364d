-- The files of a run that stops.
use Rattle.std.specs.Prelude.{◌≡◌, ℕ, ◌≤◌, List, []}
use Rattle.std.specs.List.{flat_map, range_with_len}
use Rattle.package_fields.specs.Kernel.{Reacted}
use Rattle.problem_set.specs.Settings.{Settings}
use Rattle.mesh_rules.specs.Run.{opened, run, too_many_at, too_many_at_start}
use Rattle.mesh_rules.specs.Files.{dumps_of_cycle, files_of}

-- a run that stops at a cycle has the dumps of the opening and of the cycles before, and no history
abbrev pub FilesOfStopped : Type 0
FilesOfStopped = (p : Settings) (react : List ℕ → Reacted) (prefix : List ℕ) (cycle leaves : ℕ) → cycle ≤ p.nlim → run p react cycle ≡ too_many_at cycle leaves →
    files_of p react prefix ≡ flat_map (dumps_of_cycle p react prefix) (range_with_len 0 cycle)

-- a run that stops at the start has none
abbrev pub NoFilesAtStart : Type 0
NoFilesAtStart = (p : Settings) (react : List ℕ → Reacted) (prefix : List ℕ) → opened p ≡ too_many_at_start → files_of p react prefix ≡ []
