-- The files of a run: their names and texts.
use Rattle.std.specs.Prelude.{◌==◌, ℕ, ◌+◌, ◌-◌, ◌%◌, Bool, ◌||◌, cond, List, [], ◌∷◌, ◌++◌, length, replicate, codes}
use Rattle.std.specs.List.{flat_map, range_with_len}
use Rattle.std.specs.Fmt.{decimal}
use Rattle.package_fields.specs.Kernel.{Reacted}
use Rattle.problem_set.specs.Settings.{Settings}
use Rattle.mesh_rules.specs.Run.{Outcome, Reached, run, running, too_many_at, too_many_at_start}
use Rattle.mesh_rules.specs.Texts.{dump_text, history_lines, history_of}

-- a file: its name and its bytes
abbrev pub NamedText : Type 0
NamedText = List ℕ × List ℕ

-- a dump follows each cycle whose number is a multiple of `dump_every`, the opening included, and the last cycle
abbrev pub is_dumped : Settings → ℕ → Bool
is_dumped p cycle = cycle % p.dump_every == 0 || cycle == p.nlim

-- a number in six digits or more, with zeros in front
abbrev pub in_six_digits : ℕ → List ℕ
in_six_digits n = replicate (6 - length (decimal n)) 48 ++ decimal n

-- the name of a cycle's dump: `mesh.000010.dump`
unfoldable pub dump_file_name : List ℕ → ℕ → List ℕ
dump_file_name prefix cycle = prefix ++ codes "." ++ in_six_digits cycle ++ codes ".dump"

-- the name of the history
unfoldable pub history_file_name : List ℕ → List ℕ
history_file_name prefix = prefix ++ codes ".hist"

-- what a run that goes on gives, nothing of one that has stopped
abbrev pub of_running : {X : Type 0} → (Reached → List X) → Outcome → List X
of_running each (running r) = each r
of_running each too_many_at_start = []
of_running each (too_many_at _ _) = []

-- the dump of a cycle, where the run has come so far and a dump follows the cycle
abbrev pub dumps_at : Settings → List ℕ → ℕ → Reached → List NamedText
dumps_at p prefix cycle r = cond (is_dumped p cycle) ((dump_file_name prefix cycle, dump_text p r.state.mesh cycle) ∷ []) []

abbrev pub dumps_of_cycle : Settings → (List ℕ → Reacted) → List ℕ → ℕ → List NamedText
dumps_of_cycle p react prefix cycle = of_running (dumps_at p prefix cycle) (run p react cycle)

-- the dumps of the opening and of the cycles up to one, of a run that stops those before it stopped
abbrev pub dumps_until : Settings → (List ℕ → Reacted) → List ℕ → ℕ → List NamedText
dumps_until p react prefix cycle = flat_map (dumps_of_cycle p react prefix) (range_with_len 0 (cycle + 1))

-- the lines of the opening and of the cycles up to one in the history
abbrev pub lines_of_cycle : Settings → (List ℕ → Reacted) → ℕ → List ℕ
lines_of_cycle p react cycle = of_running (history_lines p cycle) (run p react cycle)

abbrev pub lines_until : Settings → (List ℕ → Reacted) → ℕ → List ℕ
lines_until p react cycle = flat_map (lines_of_cycle p react) (range_with_len 0 (cycle + 1))

-- the history of a run that completes, none of one that stops
abbrev pub history_files : Settings → (List ℕ → Reacted) → List ℕ → List NamedText
history_files p react prefix = of_running (λ r. (history_file_name prefix, history_of p (lines_until p react p.nlim)) ∷ []) (run p react p.nlim)

-- all files of a run: its dumps, and last the history where it completes
abbrev pub files_of : Settings → (List ℕ → Reacted) → List ℕ → List NamedText
files_of p react prefix = dumps_until p react prefix p.nlim ++ history_files p react prefix
