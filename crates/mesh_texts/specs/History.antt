-- The lines of the history, from what is said of each field.
use Rattle.std.specs.Prelude.{ℕ, List}
use Rattle.std.specs.List.{enumerate_from, flat_map}
use Rattle.problem_set.specs.Settings.{Settings}
use Rattle.mesh_rules.specs.Sums.{table}
use Rattle.mesh_rules.specs.Mesh.{total_of}
use Rattle.mesh_rules.specs.Mask.{blocks_with}
use Rattle.mesh_rules.specs.Fields.{field_at, field_count}
use Rattle.mesh_rules.specs.Run.{Reached, last_drop, last_flow}
use Rattle.mesh_rules.specs.Texts.{history_line}
use Rattle.mesh_texts.specs.declared.history.HistoryEntry.{HistoryEntry}

-- a field's line after a cycle
abbrev pub entry_line : Settings → ℕ → ℕ → HistoryEntry → List ℕ
entry_line p cycle f entry = history_line p cycle (field_at p f).label entry.total entry.flow entry.dropped entry.blocks

-- the lines of fields with their numbers
abbrev pub numbered_entries : Settings → ℕ → List (ℕ × HistoryEntry) → List ℕ
numbered_entries p cycle entries = flat_map (λ (field : ℕ × HistoryEntry). entry_line p cycle field.0 field.1) entries

-- the lines of all fields
abbrev pub entry_lines : Settings → ℕ → List HistoryEntry → List ℕ
entry_lines p cycle entries = numbered_entries p cycle (enumerate_from 0 entries)

-- what the history says of a field of a run that has come so far
abbrev pub entry_of : Reached → ℕ → HistoryEntry
entry_of r f = record { total = total_of r.state.mesh f; flow = last_flow r f; dropped = last_drop r f; blocks = blocks_with r.state.mask f }

abbrev pub entries_of : Settings → Reached → List HistoryEntry
entries_of p r = table (field_count p) (entry_of r)
