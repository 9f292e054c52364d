use Rattle.std.proofs.Common.{◌≡◌, ◌∙◌, ap, subst, nat_eq, ℕ}
use Rattle.task_lists.specs.Cycle.{CycleTasks, stages_over}
use Rattle.task_lists.proofs.Ready.{over_is}
use Rattle.task_lists.proofs.cycle.Collection.is_over.Goals as goal

pub returns : goal.returns
returns c =
    let i = c.self.inside in
    subst (λ (v : CycleTasks). nat_eq i.waiting 0 ≡ stages_over v) c.self.view_is
    (ap (λ (n : ℕ). nat_eq n 0) c.self.invariant.counted ∙ over_is i.stages i.completed.items)
