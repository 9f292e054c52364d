use Rattle.std.proofs.Common.{◌≡◌, ◌∙◌, ℕ, ◌++◌, List, OnOk, ap, length, subst}
use Rattle.package_fields.specs.declared.flow.Flow.{Flow}
use Rattle.problem_set.specs.SettingsOf.{settings_of}
use Rattle.mesh_rules.specs.Fields.{field_count}
use Rattle.mesh_rules.specs.Files.{lines_of_cycle}
use Rattle.mesh_rules.specs.Reaction.{kernel_of}
use Rattle.mesh_rules.specs.Run.{Reached}
use Rattle.mesh_texts.specs.declared.history.HistoryEntry.{HistoryEntry}
use Rattle.mesh_texts.specs.History.{entries_of, entry_of}
use Rattle.dense_mesh.proofs.Tables.{table_length}
use Rattle.dense_model.specs.RunFiles.{RunAt}
use Rattle.dense_model.specs.Stands.{reached_in}
use Rattle.dense_model.proofs.Runs.{lines_are}
use Rattle.dense_model.proofs.dense_run.DenseRun.push_history.Goals as goal

pub entries_after-requires-clause-flows : goal.entries_after-requires-clause-flows
entries_after-requires-clause-flows c = ap (λ (x : List Flow). length x) c.as_slice.ensures ∙ c.self.invariant.flow_count

pub entries_after-requires-clause-drops : goal.entries_after-requires-clause-drops
entries_after-requires-clause-drops c = ap (λ (x : List ℕ). length x) c.as_slice-2.ensures ∙ c.self.invariant.drop_count

pub push_history_lines-requires : goal.push_history_lines-requires
push_history_lines-requires c =
    let q = settings_of c.self.inside.problem.now in
    ap (λ (x : List HistoryEntry). length x) (c.as_slice-3.ensures.value ∙ c.in_ok-entries.ensures)
    ∙ table_length (field_count q) (entry_of (reached_in q c.self.inside.tree c.self.inside.state c.as_slice.result.now c.as_slice-2.result.now))

pub returns : goal.returns
returns c =
    let i = c.self.inside in
    let q = settings_of i.problem.now in
    let r : Reached = reached_in q i.tree i.state i.flows i.drops in
    let entries_are = c.as_slice-3.ensures.value ∙ c.in_ok-entries.ensures
    ∙ ap (λ (x : List Flow). entries_of q (reached_in q i.tree i.state x c.as_slice-2.result.now)) c.as_slice.ensures
    ∙ ap (λ (x : List ℕ). entries_of q (reached_in q i.tree i.state i.flows x)) c.as_slice-2.ensures in
    subst (λ (v : RunAt). OnOk c.push_history_lines.result (c.push_history_lines.new.into.items ≡ c.args.into.now.items ++ lines_of_cycle v.problem (kernel_of v.problem) v.cycle)) c.self.view_is
    (subst (λ (lines : List ℕ). OnOk c.push_history_lines.result (c.push_history_lines.new.into.items ≡ c.args.into.now.items ++ lines)) (lines_are q i.cycle r c.self.invariant.reached)
    (c.push_history_lines.ensures.reached r entries_are))
