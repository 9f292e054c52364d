use Rattle.std.proofs.Common.{◌≡◌, ◌∙◌, arith, refl}
use Rattle.problem_set.specs.SettingsOf.{settings_of}
use Rattle.mesh_rules.specs.Fields.{field_count}
use Rattle.mesh_rules.specs.Cycle.{State}
use Rattle.dense_cycle.specs.Held.{held_of, state_of}
use Rattle.dense_cycle.proofs.Added.{can_add, no_sums}
use Rattle.dense_cycle.proofs.StagedLists.{can_stage}
use Rattle.dense_cycle.proofs.stages.run_stages.Goals as goal

pub next_stage-requires-clause-mesh : goal.next_stage-requires-clause-mesh
next_stage-requires-clause-mesh c =
    let p = c.args.problem.now in
    can_stage p c.args.tree.now c.args.layout.now (state_of c.args.tree.now p.cells c.args.state.now) c.args.state.now.held 0 c.requires.fit c.requires.held refl (omega (arith, p.stepping_sound.cycle_sound.least_stages))

pub next_stage-requires-clause-sums : goal.next_stage-requires-clause-sums
next_stage-requires-clause-sums c =
    let p = c.args.problem.now in
    let s : State = state_of c.args.tree.now p.cells c.args.state.now in
    let many : c.len-2.result ≡ field_count (settings_of p) = c.len-2.ensures ∙ p.fields_sound.same_length in
    can_add p s c.requires.fit 0 (held_of c.args.tree.now p.cells c.args.state.now.held) c.in_ok-sums.sums (omega (arith, p.stepping_sound.cycle_sound.least_stages)) refl
    (no_sums (settings_of p) s c.len-2.result c.in_ok-sums.sums many c.in_ok-sums.ensures.flows c.in_ok-sums.ensures.drops)

pub loop-stage-init : goal.loop-stage-init
loop-stage-init c =
    let p = c.args.problem.now in
    let s : State = state_of c.args.tree.now p.cells c.args.state.now in
    let many : c.len-2.result ≡ field_count (settings_of p) = c.len-2.ensures ∙ p.fields_sound.same_length in
    record {
      held_is = c.in_ok-held.ensures.held s 0 refl;
      kept = c.in_ok-held.ensures.kept;
      sums_are = c.in_ok-held.ensures.sums s 0 refl (no_sums (settings_of p) s c.len-2.result c.in_ok-sums.sums many c.in_ok-sums.ensures.flows c.in_ok-sums.ensures.drops);
      work_fits = c.in_ok-held.ensures.work;
    }

pub next_stage-requires-in-loop-stage-clause-mesh : goal.next_stage-requires-in-loop-stage-clause-mesh
next_stage-requires-in-loop-stage-clause-mesh c =
    let p = c.args.problem.now in
    can_stage p c.args.tree.now c.args.layout.now (state_of c.args.tree.now p.cells c.args.state.now) c.loop-stage.held c.loop-stage.stage c.requires.fit c.loop-stage.invariant.kept c.loop-stage.invariant.held_is (omega arith)

pub next_stage-requires-in-loop-stage-clause-sums : goal.next_stage-requires-in-loop-stage-clause-sums
next_stage-requires-in-loop-stage-clause-sums c =
    let p = c.args.problem.now in
    can_add p (state_of c.args.tree.now p.cells c.args.state.now) c.requires.fit c.loop-stage.stage (held_of c.args.tree.now p.cells c.loop-stage.held) c.loop-stage.sums (omega arith) c.loop-stage.invariant.held_is c.loop-stage.invariant.sums_are

pub loop-stage-preserved : goal.loop-stage-preserved
loop-stage-preserved c =
    let p = c.args.problem.now in
    let s : State = state_of c.args.tree.now p.cells c.args.state.now in
    record {
      held_is = c.in_ok-held-2.ensures.held s c.loop-stage.stage c.loop-stage.invariant.held_is;
      kept = c.in_ok-held-2.ensures.kept;
      sums_are = c.in_ok-held-2.ensures.sums s c.loop-stage.stage c.loop-stage.invariant.held_is c.loop-stage.invariant.sums_are;
      work_fits = c.in_ok-held-2.ensures.work;
    }
