use Rattle.std.proofs.Common.{List, ℕ, ◌++◌, ap, ◌∙◌, arith}
use Rattle.std.specs.List.{enumerate_from}
use Rattle.std.proofs.lemmas.List.{take_all}
use Rattle.std.proofs.lemmas.List.FromFn.{length-enumerate_from}
use Rattle.problem_set.specs.SettingsOf.{settings_of}
use Rattle.mesh_texts.specs.declared.history.HistoryEntry.{HistoryEntry}
use Rattle.mesh_texts.specs.History.{entry_lines, numbered_entries}
use Rattle.mesh_texts.proofs.Entries.{entry_more, lines_are}
use Rattle.mesh_texts.proofs.history.push_history_lines.Goals as goal

pub loop-field-preserved : goal.loop-field-preserved
loop-field-preserved c =
    entry_more (settings_of c.args.problem.now) c.args.cycle c.args.entries.now c.loop-field.field _ c.args.into.now.items c.loop-field.into.items c.push_history_line.new.into.items
    (omega arith) c.loop-field.invariant c.in_ok-push_history_line.ensures

pub returns : goal.returns
returns c =
    let p = settings_of c.args.problem.now in
    let entries = c.args.entries.now in
    let all = c.loop-field.invariant
    ∙ ap (λ (xs : List (ℕ × HistoryEntry)). c.args.into.now.items ++ numbered_entries p c.args.cycle xs)
    (take_all c.loop-field.field (enumerate_from 0 entries) (omega (arith, c.loop-field-test.false, length-enumerate_from 0 entries))) in
    record {
      lines = all;
      reached = λ r same. all ∙ ap (λ (v : List ℕ). c.args.into.now.items ++ v) (ap (entry_lines p c.args.cycle) same ∙ lines_are p c.args.cycle r);
    }
