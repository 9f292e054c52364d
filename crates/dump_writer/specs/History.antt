-- The rows of the history.
use Rattle.std.specs.Prelude.{◌≡◌, ℕ, ◌+◌, ◌<◌, List, All}
use Rattle.std.specs.List.{flat_map, range_with_len}
use Rattle.package_fields.specs.Kernel.{Reacted}
use Rattle.problem_set.specs.Settings.{Settings}
use Rattle.mesh_rules.specs.Sums.{table}
use Rattle.mesh_rules.specs.Mesh.{total_of}
use Rattle.mesh_rules.specs.Fields.{field_at, field_count}
use Rattle.mesh_rules.specs.Mask.{blocks_with}
use Rattle.mesh_rules.specs.Run.{Reached, last_drop, last_flow, run}
use Rattle.mesh_rules.specs.Files.{lines_until, of_running}
use Rattle.mesh_rules.specs.Texts.{history_line, history_lines}
use Rattle.dump_writer.specs.declared.history.HistRow.{HistRow}

-- a row's line
abbrev pub row_text : Settings → HistRow → List ℕ
row_text p row = history_line p row.cycle (field_at p row.field).label row.total row.flow row.dropped row.blocks

-- the lines of rows
abbrev pub rows_text : Settings → List HistRow → List ℕ
rows_text p rows = flat_map (row_text p) rows

-- each row is of a field that there is
abbrev pub HaveFields : Settings → List HistRow → Type 0
HaveFields p rows = All (λ row. row.field < field_count p) rows

-- the row of a field of a run that has come so far, after a cycle
abbrev pub row_of : ℕ → Reached → ℕ → HistRow
row_of cycle r f = record {
  cycle = cycle;
  field = f;
  total = total_of r.state.mesh f;
  flow = last_flow r f;
  dropped = last_drop r f;
  blocks = blocks_with r.state.mask f;
}

-- those of all fields
abbrev pub rows_of : Settings → ℕ → Reached → List HistRow
rows_of p cycle r = table (field_count p) (row_of cycle r)

-- those of the opening and of the cycles up to one
abbrev pub rows_until : Settings → (List ℕ → Reacted) → ℕ → List HistRow
rows_until p react cycle = flat_map (λ at. of_running (rows_of p at) (run p react at)) (range_with_len 0 (cycle + 1))

-- the lines of a cycle's rows are those of the cycle
abbrev pub RowsAreLines : Type 0
RowsAreLines = (p : Settings) (cycle : ℕ) (r : Reached) → rows_text p (rows_of p cycle r) ≡ history_lines p cycle r

-- those of a run's rows are the lines of the run
abbrev pub RowsAreHistory : Type 0
RowsAreHistory = (p : Settings) (react : List ℕ → Reacted) (cycle : ℕ) → rows_text p (rows_until p react cycle) ≡ lines_until p react cycle

-- and each is of a field that there is
abbrev pub RowsHaveFields : Type 0
RowsHaveFields = (p : Settings) (cycle : ℕ) (r : Reached) → HaveFields p (rows_of p cycle r)
