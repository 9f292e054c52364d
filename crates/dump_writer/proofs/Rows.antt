-- The rows of the history and their lines.
use Rattle.std.proofs.Common.{◌≡◌, ℕ, ◌+◌, ◌<◌, List, [], ◌∷◌, ◌++◌, map, refl, sym, ap, ◌∙◌, arith}
use Rattle.std.specs.List.{flat_map, range_with_len}
use Rattle.std.proofs.lemmas.List.Folds.{flat_map-map}
use Rattle.std.proofs.lemmas.List.Elements.{All-map}
use Rattle.std.proofs.lemmas.List.FromFn.{get_or-range_with_len, length-range_with_len, map-range_with_len_more}
use Rattle.std.proofs.lemmas.Grind.{flat_map-append}
use Rattle.package_fields.specs.declared.flow.Flow.{Flow}
use Rattle.package_fields.specs.Kernel.{Reacted}
use Rattle.problem_set.specs.Settings.{Settings}
use Rattle.mesh_rules.specs.Fields.{field_count}
use Rattle.mesh_rules.specs.Run.{Outcome, run, running, too_many_at, too_many_at_start}
use Rattle.mesh_rules.specs.Files.{lines_of_cycle, of_running}
use Rattle.mesh_rules.specs.Texts.{history_lines}
use Rattle.dump_writer.specs.declared.history.HistRow.{HistRow}
use Rattle.dump_writer.specs.History.{RowsAreHistory, RowsAreLines, RowsHaveFields, row_of, row_text, rows_of, rows_text}

pub rows_are_lines : RowsAreLines
rows_are_lines p cycle r = flat_map-map (row_text p) (row_of cycle r) (range_with_len 0 (field_count p))

-- of a run that goes on, and of one that has stopped
of_outcome : (p : Settings) (cycle : ℕ) (o : Outcome) → rows_text p (of_running (rows_of p cycle) o) ≡ of_running (history_lines p cycle) o
of_outcome p cycle (running r) = rows_are_lines p cycle r
of_outcome p cycle too_many_at_start = refl
of_outcome p cycle (too_many_at at leaves) = refl

-- of some cycles
of_cycles : (p : Settings) (react : List ℕ → Reacted) (cycles : List ℕ) → rows_text p (flat_map (λ at. of_running (rows_of p at) (run p react at)) cycles) ≡ flat_map (lines_of_cycle p react) cycles
of_cycles p react [] = refl
of_cycles p react (at ∷ cycles) =
    flat_map-append (row_text p) (of_running (rows_of p at) (run p react at)) (flat_map (λ k. of_running (rows_of p k) (run p react k)) cycles)
    ∙ ap (λ (v : List ℕ). v ++ rows_text p (flat_map (λ k. of_running (rows_of p k) (run p react k)) cycles)) (of_outcome p at (run p react at))
    ∙ ap (λ (v : List ℕ). lines_of_cycle p react at ++ v) (of_cycles p react cycles)

pub rows_are_history : RowsAreHistory
rows_are_history p react cycle = of_cycles p react (range_with_len 0 (cycle + 1))

pub rows_have_fields : RowsHaveFields
rows_have_fields p cycle r =
    All-map (λ (row : HistRow). row.field < field_count p) (row_of cycle r) (range_with_len 0 (field_count p))
    (λ k d inside. let long = length-range_with_len 0 (field_count p) in let at = get_or-range_with_len 0 (field_count p) k d (omega arith) in omega arith)

-- rows are one where their parts are
pub same_row : (a b : HistRow) → a.cycle ≡ b.cycle → a.field ≡ b.field → a.total ≡ b.total → a.flow ≡ b.flow → a.dropped ≡ b.dropped → a.blocks ≡ b.blocks → a ≡ b
same_row a b c f t w d k =
    ap (λ v. let x : HistRow = record { cycle = v; field = a.field; total = a.total; flow = a.flow; dropped = a.dropped; blocks = a.blocks } in x) c
    ∙ ap (λ v. let x : HistRow = record { cycle = b.cycle; field = v; total = a.total; flow = a.flow; dropped = a.dropped; blocks = a.blocks } in x) f
    ∙ ap (λ v. let x : HistRow = record { cycle = b.cycle; field = b.field; total = v; flow = a.flow; dropped = a.dropped; blocks = a.blocks } in x) t
    ∙ ap (λ (v : Flow). let x : HistRow = record { cycle = b.cycle; field = b.field; total = b.total; flow = v; dropped = a.dropped; blocks = a.blocks } in x) w
    ∙ ap (λ v. let x : HistRow = record { cycle = b.cycle; field = b.field; total = b.total; flow = b.flow; dropped = v; blocks = a.blocks } in x) d
    ∙ ap (λ v. let x : HistRow = record { cycle = b.cycle; field = b.field; total = b.total; flow = b.flow; dropped = b.dropped; blocks = v } in x) k

-- the rows with one more
pub rows_more : (n : ℕ) (each : ℕ → HistRow) (rows more : List HistRow) (row : HistRow) → rows ≡ map each (range_with_len 0 n) → row ≡ each n → more ≡ rows ++ row ∷ [] → more ≡ map each (range_with_len 0 (n + 1))
rows_more n each rows more row before is after =
    after ∙ ap (λ (v : List HistRow). v ++ row ∷ []) before ∙ ap (λ (v : HistRow). map each (range_with_len 0 n) ++ v ∷ []) is ∙ sym (map-range_with_len_more each 0 n n (omega arith))
