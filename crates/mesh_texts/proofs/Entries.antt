-- The lines of a cycle in the history.
use Rattle.std.proofs.Common.{◌≡◌, ℕ, ◌+◌, ◌<◌, List, ◌++◌, length, get_or, map, take, zero, suc, refl, sym, ap, ◌∙◌, arith}
use Rattle.std.specs.List.{enumerate_from, flat_map, range_with_len}
use Rattle.std.proofs.lemmas.List.FromFn.{get_or-enumerate_from, length-enumerate_from}
use Rattle.problem_set.specs.Settings.{Settings}
use Rattle.mesh_rules.specs.Fields.{field_count}
use Rattle.mesh_rules.specs.Run.{Reached}
use Rattle.mesh_rules.specs.Texts.{history_lines}
use Rattle.mesh_texts.specs.declared.history.HistoryEntry.{HistoryEntry}
use Rattle.mesh_texts.specs.History.{entries_of, entry_line, entry_lines, entry_of, numbered_entries}
use Rattle.mesh_texts.proofs.Appended.{grown_by}

-- a text with the line of one field more
pub entry_more : (p : Settings) (cycle : ℕ) (entries : List HistoryEntry) (i : ℕ) (d : HistoryEntry) (s0 s1 s2 : List ℕ) → i < length entries
    → s1 ≡ s0 ++ numbered_entries p cycle (take i (enumerate_from 0 entries)) → s2 ≡ s1 ++ entry_line p cycle i (get_or entries i d) → s2 ≡ s0 ++ numbered_entries p cycle (take (i + 1) (enumerate_from 0 entries))
entry_more p cycle entries i d s0 s1 s2 inside e1 e2 =
    let z : 0 + i ≡ i = omega arith in
    let lines : ℕ × HistoryEntry → List ℕ = λ field. entry_line p cycle field.0 field.1 in
    let item = get_or-enumerate_from 0 entries i (0, d) inside in
    grown_by lines (enumerate_from 0 entries) i (0, d) s0 s1 s2 (omega (arith, inside, length-enumerate_from 0 entries)) e1
    (e2 ∙ ap (λ (v : List ℕ). s1 ++ v) (ap (λ (k : ℕ). entry_line p cycle k (get_or entries i d)) (sym z) ∙ ap lines (sym item)))

-- the lines of a table
of_table : (each : ℕ → HistoryEntry) (lines : ℕ → HistoryEntry → List ℕ) (a n : ℕ) →
    flat_map (λ (field : ℕ × HistoryEntry). lines field.0 field.1) (enumerate_from a (map each (range_with_len a n))) ≡ flat_map (λ f. lines f (each f)) (range_with_len a n)
of_table each lines a zero = refl
of_table each lines a (suc n) = ap (λ (v : List ℕ). lines a (each a) ++ v) (of_table each lines (a + 1) n)

-- those of a run that has come so far
pub lines_are : (p : Settings) (cycle : ℕ) (r : Reached) → entry_lines p cycle (entries_of p r) ≡ history_lines p cycle r
lines_are p cycle r = of_table (entry_of r) (entry_line p cycle) 0 (field_count p)
