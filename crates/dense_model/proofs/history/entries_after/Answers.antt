use Rattle.problem_set.specs.SettingsOf.{settings_of}
use Rattle.mesh_texts.specs.History.{entry_of}
use Rattle.dense_model.specs.Stands.{reached_in}
use Rattle.dense_cycle.proofs.Pushed.{table_more}
use Rattle.dense_model.proofs.history.entries_after.Goals as goal

pub loop-field-preserved : goal.loop-field-preserved
loop-field-preserved c =
    table_more c.loop-field.field (entry_of (reached_in (settings_of c.args.problem.now) c.args.tree.now c.args.state.now c.args.flows.now c.args.drops.now)) c.loop-field.entries.items c.push.new.self.items c.entry_after.result
    c.loop-field.invariant c.entry_after.ensures c.in_ok-push.ensures.items
