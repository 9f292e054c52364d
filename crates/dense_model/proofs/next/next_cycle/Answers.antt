use Rattle.std.proofs.Common.{◌∙◌, sym}
use Rattle.problem_set.specs.SettingsOf.{settings_of}
use Rattle.dense_model.proofs.Moved.{stays_there}
use Rattle.dense_model.proofs.next.next_cycle.Goals as goal

pub returns-clause-next : goal.returns-clause-next
returns-clause-next c =
    stays_there (settings_of c.args.problem.now) c.args.tree.now c.args.layout.now c.args.before.now c.in_ok-settled.settled c.args.cycle c.in_ok-settled.ensures (sym c.remeshes.ensures ∙ c.if-remeshes.false)
