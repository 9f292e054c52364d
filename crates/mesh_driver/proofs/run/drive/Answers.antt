use Rattle.std.proofs.Common.{◌≡◌, ◌+◌, ◌≤◌, ℕ, ap, subst, sym, ◌∙◌, arith}
use Rattle.std.proofs.lemmas.Result.{err_from_is_err_and}
use Rattle.problem_set.specs.Settings.{Settings}
use Rattle.problem_set.specs.SettingsOf.{settings_of}
use Rattle.dense_model.specs.RunFiles.{IsRunning, RunAt, run_of}
use Rattle.mesh_outside.proofs.Afters.{writes_on, writes_then}
use Rattle.mesh_driver.specs.declared.run.RunEnd.{RunEnd}
use Rattle.mesh_driver.proofs.Faults.{fault_again, well}
use Rattle.dense_model.proofs.FileLists.{lines_more}
use Rattle.mesh_driver.proofs.Cycles.{closed_behind, gains_next, nothing_gained, started_gains, started_lines}
use Rattle.mesh_driver.proofs.Ended.{ends}
use Rattle.mesh_driver.proofs.Stopping.{all_gained, history_stops, stops_at_start, stops_in}
use Rattle.mesh_driver.proofs.run.drive.Goals as goal

pub returns-in_err-run-clause-err : goal.returns-in_err-run-clause-err
returns-in_err-run-clause-err g c =
    let p = err_from_is_err_and c.from_residual.result c.from_residual.ensures.1 in
    rw (p.1, p.2) (stops_at_start (settings_of c.args.problem.now) c.args.prefix.now (g.D.Depot.seen c.args.depot.now).written _ c.in_err-run.ensures.fault)

pub returns-in_err-write_opening-clause-err : goal.returns-in_err-write_opening-clause-err
returns-in_err-write_opening-clause-err g c =
    let least : 0 ≤ c.args.problem.now.nlim = omega arith in
    let p = err_from_is_err_and c.from_residual-in_err-write_opening.result c.from_residual-in_err-write_opening.ensures.1 in
    rw (p.1, p.2) (stops_in (settings_of c.args.problem.now) c.args.prefix.now 0 _ _ _ _ least (nothing_gained (g.D.Depot.seen c.args.depot.now).written) c.in_err-write_opening.ensures.err)

pub cycles-init : goal.cycles-init
cycles-init g c =
    let p = settings_of c.args.problem.now in
    let none : c.in_ok-run.run'.cycle ≡ 0 = ap (λ (r : RunAt). r.cycle) c.in_ok-run.ensures.started in
    let gained = c.in_ok-write_opening.ensures.ok in
    record {
      same = ap (λ (r : RunAt). r.problem) c.in_ok-run.ensures.started;
      within = omega (arith, none);
      running = subst (λ (k : ℕ). IsRunning (run_of p k)) (sym none) c.in_ok-run.ensures.running;
      gained = started_gains p c.args.prefix.now c.in_ok-run.run'.cycle _ _ none gained;
      closed = closed_behind p c.args.prefix.now 0 _ _ gained c.requires;
      lines = started_lines p c.in_ok-run.run'.cycle _ _ none c.new-history.ensures.items c.in_ok-write_opening.ensures.lines;
      after = writes_on _ _ _ c.in_ok-write_opening.ensures.after (λ is. absurd (well _ _ is));
    }

pub cycles-preserved : goal.cycles-preserved
cycles-preserved g c =
    let p = settings_of c.args.problem.now in
    let before = c.cycles.invariant in
    let within : c.cycles.run.cycle + 1 ≤ c.cycles.run.problem.nlim = grind (arith, c.cycles-test.ensures) in
    let one_more : c.advance.new.run.cycle ≡ c.cycles.run.cycle + 1 = ap (λ (r : RunAt). r.cycle) c.in_ok-advance.ensures.next in
    let same : c.advance.new.run.problem ≡ c.cycles.run.problem = ap (λ (r : RunAt). r.problem) c.in_ok-advance.ensures.next in
    let next : c.advance.new.run.cycle + 1 ≡ (c.cycles.run.cycle + 1) + 1 = omega (arith, one_more) in
    let limit : c.advance.new.run.problem.nlim ≡ c.cycles.run.problem.nlim = ap (λ (q : Settings). q.nlim) same in
    record {
      same = same ∙ before.same;
      within = omega (arith, within, one_more, limit);
      running = subst (λ (k : ℕ). IsRunning (run_of p k)) (sym one_more) c.in_ok-advance.ensures.running;
      gained = gains_next p c.args.prefix.now (c.cycles.run.cycle + 1) (c.advance.new.run.cycle + 1) _ _ _ next before.gained c.in_ok-advance.ensures.ok;
      closed = closed_behind p c.args.prefix.now (c.cycles.run.cycle + 1) _ _ c.in_ok-advance.ensures.ok before.closed;
      lines = lines_more p c.cycles.run.cycle c.advance.new.run.cycle _ _ one_more before.lines c.in_ok-advance.ensures.lines;
      after = writes_then _ _ _ _ _ _ before.after (λ x. x) c.in_ok-advance.ensures.after (λ is. absurd (well _ _ is)) (λ x. absurd x);
    }

pub returns-in_err-advance-clause-err : goal.returns-in_err-advance-clause-err
returns-in_err-advance-clause-err g c =
    let within : c.cycles.run.cycle + 1 ≤ c.cycles.run.problem.nlim = grind (arith, c.cycles-test.ensures) in
    let limit : c.cycles.run.problem.nlim ≡ c.args.problem.now.nlim = ap (λ (q : Settings). q.nlim) c.cycles.invariant.same in
    let p = err_from_is_err_and c.from_residual-in_err-advance.result c.from_residual-in_err-advance.ensures.1 in
    rw (p.1, p.2) (stops_in (settings_of c.args.problem.now) c.args.prefix.now (c.cycles.run.cycle + 1) _ _ _ _ (omega (arith, within, limit)) c.cycles.invariant.gained c.in_err-advance.ensures.err)

pub returns-in_err-advance-clause-after : goal.returns-in_err-advance-clause-after
returns-in_err-advance-clause-after g c =
    let p = err_from_is_err_and c.from_residual-in_err-advance.result c.from_residual-in_err-advance.ensures.1 in
    rw (p.1, p.2) (writes_then _ _ _ _ _ _ c.cycles.invariant.after (λ x. x) (fault_again {T = Unit {0}} {U = RunEnd} c.in_err-advance.field-0.0 _ _ c.in_err-advance.ensures.after) (λ x. x) (λ x. x))

pub returns-in_err-write_history-clause-err : goal.returns-in_err-write_history-clause-err
returns-in_err-write_history-clause-err g c =
    let before = c.cycles.invariant in
    let last : c.cycles.run.cycle ≡ c.cycles.run.problem.nlim = grind (arith, c.cycles-test.ensures) in
    let limit : c.cycles.run.problem.nlim ≡ c.args.problem.now.nlim = ap (λ (q : Settings). q.nlim) before.same in
    let p = err_from_is_err_and c.from_residual-in_err-write_history.result c.from_residual-in_err-write_history.ensures.1 in
    rw (p.1, p.2) (history_stops (settings_of c.args.problem.now) c.args.prefix.now c.cycles.run.cycle _ _ _ _ _ (last ∙ limit) before.running before.lines before.gained c.in_err-write_history.ensures.err)

pub returns-in_err-write_history-clause-after : goal.returns-in_err-write_history-clause-after
returns-in_err-write_history-clause-after g c =
    let p = err_from_is_err_and c.from_residual-in_err-write_history.result c.from_residual-in_err-write_history.ensures.1 in
    rw (p.1, p.2) (writes_then _ _ _ _ _ _ c.cycles.invariant.after (λ x. x) (fault_again {T = Unit {0}} {U = RunEnd} c.in_err-write_history.field-0.0 _ _ c.in_err-write_history.ensures.after) (λ x. x) (λ x. x))

pub returns-clause-ok : goal.returns-clause-ok
returns-clause-ok g c =
    let before = c.cycles.invariant in
    let last : c.cycles.run.cycle ≡ c.cycles.run.problem.nlim = grind (arith, c.cycles-test.ensures) in
    let limit : c.cycles.run.problem.nlim ≡ c.args.problem.now.nlim = ap (λ (q : Settings). q.nlim) before.same in
    all_gained (settings_of c.args.problem.now) c.args.prefix.now c.cycles.run.cycle _ _ _ _ (last ∙ limit) before.running before.lines before.gained c.in_ok-write_history.ensures.ok

pub returns-clause-after : goal.returns-clause-after
returns-clause-after g c =
    writes_then _ _ _ _ _ _ c.cycles.invariant.after (λ x. x) c.in_ok-write_history.ensures.after (λ is. absurd (well _ _ is)) (λ is. absurd (well _ _ is))

pub returns-in_err-write_opening-clause-after : goal.returns-in_err-write_opening-clause-after
returns-in_err-write_opening-clause-after g c =
    let p = err_from_is_err_and c.from_residual-in_err-write_opening.result c.from_residual-in_err-write_opening.ensures.1 in
    rw (p.1, p.2) (fault_again {T = Unit {0}} {U = RunEnd} c.in_err-write_opening.field-0.0 _ _ c.in_err-write_opening.ensures.after)

pub advance-requires-clause-unfinished : goal.advance-requires-clause-unfinished
advance-requires-clause-unfinished g c = let within : c.cycles.run.cycle + 1 ≤ c.cycles.run.problem.nlim = grind (arith, c.cycles-test.ensures) in omega (arith, within)

pub returns-clause-completed : goal.returns-clause-completed
returns-clause-completed g c =
    let before = c.cycles.invariant in
    let last : c.cycles.run.cycle ≡ c.cycles.run.problem.nlim = grind (arith, c.cycles-test.ensures) in
    let limit : c.cycles.run.problem.nlim ≡ c.args.problem.now.nlim = ap (λ (q : Settings). q.nlim) before.same in
    subst (λ (n : ℕ). IsRunning (run_of (settings_of c.args.problem.now) n)) (last ∙ limit) before.running

pub returns-clause-end : goal.returns-clause-end
returns-clause-end g c =
    let before = c.cycles.invariant in
    let last : c.cycles.run.cycle ≡ c.cycles.run.problem.nlim = grind (arith, c.cycles-test.ensures) in
    let limit : c.cycles.run.problem.nlim ≡ c.args.problem.now.nlim = ap (λ (q : Settings). q.nlim) before.same in
    ends (settings_of c.args.problem.now) c.cycles.run before.same (last ∙ limit) _ _ _ c.cycles-2.ensures.value c.leaves.ensures c.total.ensures.value
