use Rattle.std.proofs.Common.{List, All, subst, sym}
use Rattle.morton_order.proofs.Lists.{all_push}
use Rattle.problem_set.specs.SettingsOf.{settings_of}
use Rattle.stage_tasks.specs.declared.portions.FieldPortions.{FieldPortions}
use Rattle.stage_tasks.specs.Portions.{IsMade}
use Rattle.stage_tasks.proofs.portions.portions_of.Goals as goal

pub returns-clause-made : goal.returns-clause-made
returns-clause-made c =
    let p = settings_of c.args.problem.now in
    subst (λ (v : List FieldPortions). All (IsMade p) v) (sym c.in_ok-push.ensures.items) (all_push (IsMade p) c.args.made.now.items _ c.requires.made c.level_portions-portions.ensures.portions)
