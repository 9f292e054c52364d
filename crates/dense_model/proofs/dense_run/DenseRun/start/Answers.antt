use Rattle.std.proofs.Common.{◌≡◌, ◌∙◌, ℕ, List, ap, arith, length, replicate, sym}
use Rattle.std.proofs.lemmas.List.{length-replicate}
use Rattle.package_fields.specs.declared.flow.Flow.{Flow}
use Rattle.package_fields.specs.Flow.{no_flow}
use Rattle.problem_set.specs.SettingsOf.{settings_of}
use Rattle.mesh_rules.specs.Fields.{field_count}
use Rattle.mesh_rules.specs.Cycle.{State}
use Rattle.mesh_rules.specs.Opening.{opening_state}
use Rattle.mesh_rules.specs.Run.{running, start_of}
use Rattle.dense_cycle.specs.Held.{state_of}
use Rattle.dense_model.proofs.dense_run.DenseRun.start.Goals as goal

pub invariant_of-result : goal.invariant_of-result
invariant_of-result c =
    let p = c.args.problem.now in
    let q = settings_of p in
    let n = field_count q in
    let flows_are : c.in_ok-flows.flows ≡ replicate n no_flow = c.in_ok-flows.ensures.flows ∙ ap (λ k. replicate k no_flow) p.fields_sound.same_length in
    let drops_are : c.in_ok-flows.drops ≡ replicate n 0 = c.in_ok-flows.ensures.drops ∙ ap (λ k. replicate k 0) p.fields_sound.same_length in
    let zero : ℕ = 0 in
    record {
      within = omega arith;
      held = c.in_ok-opened.ensures.held;
      flow_count = ap (λ (x : List Flow). length x) flows_are ∙ length-replicate n no_flow;
      drop_count = ap (λ (x : List ℕ). length x) drops_are ∙ length-replicate n zero;
      reached = c.in_ok-opened.ensures.runs
          ∙ ap (λ (x : State). running (record { state = x; flows = replicate n no_flow; drops = replicate n 0 })) (sym c.in_ok-opened.ensures.state)
          ∙ ap (λ (x : List Flow). running (record { state = state_of c.in_ok-opened.opened.tree p.cells c.in_ok-opened.opened.state; flows = x; drops = replicate n 0 })) (sym flows_are)
          ∙ ap (λ (x : List ℕ). running (record { state = state_of c.in_ok-opened.opened.tree p.cells c.in_ok-opened.opened.state; flows = c.in_ok-flows.flows; drops = x })) (sym drops_are);
    }

pub returns-clause-running : goal.returns-clause-running
returns-clause-running c = (start_of (settings_of c.args.problem.now) (opening_state (settings_of c.args.problem.now)), c.in_ok-opened.ensures.runs)
