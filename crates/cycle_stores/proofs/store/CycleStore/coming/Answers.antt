use Rattle.problem_set.specs.SettingsOf.{settings_of}
use Rattle.cycle_stores.proofs.ZerosMade.{none_made, on_err}
use Rattle.cycle_stores.proofs.store.CycleStore.coming.Goals as goal

pub returns-in_err-bufs-clause-refused : goal.returns-in_err-bufs-clause-refused
returns-in_err-bufs-clause-refused c =
    let a = c.args in
    on_err c.from_residual.result _ (λ l has none. none_made (settings_of a.problem.now) l a.self.now.state a.letter.now a.stamp c.if-letter.false c.in_err-bufs.ensures.refused none)
