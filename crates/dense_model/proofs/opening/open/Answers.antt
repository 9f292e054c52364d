use Rattle.std.proofs.Common.{refl}
use Rattle.dense_cycle.specs.Held.{state_of}
use Rattle.dense_model.proofs.Opened.{opened_runs}
use Rattle.dense_model.proofs.opening.open.Goals as goal

pub returns-clause-runs : goal.returns-clause-runs
returns-clause-runs c =
    let p = c.args.problem.now in
    opened_runs p c.in_ok-tree.tree (state_of c.in_ok-tree.tree p.cells c.in_ok-state.state) c.in_ok-state.state.held.lists refl c.in_ok-state.ensures.state c.len.ensures.kept.few
