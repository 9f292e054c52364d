use Rattle.std.proofs.Common.{◌≡◌, ◌∙◌, ◌+◌, ◌<◌, ap, arith, subst, sym}
use Rattle.std.proofs.lemmas.Result.{err_from_is_err_and}
use Rattle.block_tree.specs.Blocks.{TreeOfBlocks}
use Rattle.problem_set.specs.SettingsOf.{settings_of}
use Rattle.mesh_rules.specs.Run.{running}
use Rattle.dense_cycle.specs.Held.{IsHeldIn}
use Rattle.dense_model.specs.Next.{tree_after}
use Rattle.dense_model.specs.RunFiles.{CannotGoOn, IsRunning, RunAt, run_of}
use Rattle.dense_model.specs.Stands.{reached_in}
use Rattle.dense_model.proofs.Runs.{reached_fit, run_next, stops_run}
use Rattle.dense_model.proofs.dense_run.DenseRun.cycle.Goals as goal

pub next_cycle-requires-clause-fit : goal.next_cycle-requires-clause-fit
next_cycle-requires-clause-fit c =
    let i = c.self.inside in
    let q = settings_of i.problem.now in
    reached_fit i.problem.now i.cycle (reached_in q i.tree i.state i.flows i.drops) (subst (λ (v : RunAt). v.cycle < v.problem.nlim) (sym c.self.view_is) c.requires) c.self.invariant.reached

pub returns-in_err-next-clause-fault : goal.returns-in_err-next-clause-fault
returns-in_err-next-clause-fault c =
    let i = c.self.inside in
    let q = settings_of i.problem.now in
    let p = err_from_is_err_and c.from_residual.result c.from_residual.ensures.1 in
    rw (p.1, p.2)
    (subst (λ (v : RunAt). CannotGoOn v c.in_err-next.field-0.0) c.self.view_is
    (stops_run q i.cycle (reached_in q i.tree i.state i.flows i.drops) c.self.invariant.reached c.in_err-next.field-0.0 c.in_err-next.ensures.fault))

pub invariant_of-self-2 : goal.invariant_of-self-2
invariant_of-self-2 c =
    let i = c.self.inside in
    let q = settings_of i.problem.now in
    let next = c.in_ok-next.next in
    let n = c.in_ok-next.ensures.next in
    let more = subst (λ (v : RunAt). v.cycle < v.problem.nlim) (sym c.self.view_is) c.requires in
    let tree_is : c.go_over.new.tree ≡ tree_after i.tree next.tree = c.go_over.ensures in
    record {
      within = omega (arith, more);
      held = subst (λ (t : TreeOfBlocks). IsHeldIn q t i.layout next.state.held) (sym tree_is) n.held;
      flow_count = n.flow_count;
      drop_count = n.drop_count;
      reached = run_next q i.cycle (reached_in q i.tree i.state i.flows i.drops) c.self.invariant.reached ∙ n.reached
          ∙ ap (λ (t : TreeOfBlocks). running (reached_in q t next.state next.flows next.drops)) (sym tree_is);
    }

pub returns-clause-running : goal.returns-clause-running
returns-clause-running c =
    let i = c.self.inside in
    let q = settings_of i.problem.now in
    let next = c.in_ok-next.next in
    subst (λ (v : RunAt). IsRunning (run_of v.problem (v.cycle + 1))) c.self.view_is (
      reached_in q (tree_after i.tree next.tree) next.state next.flows next.drops,
      run_next q i.cycle (reached_in q i.tree i.state i.flows i.drops) c.self.invariant.reached ∙ c.in_ok-next.ensures.next.reached,
    )
