use Rattle.std.proofs.Common.{◌≡◌, ◌+◌, ℕ, ap, subst, sym, ◌∙◌, arith}
use Rattle.problem_set.specs.SettingsOf.{settings_of}
use Rattle.dense_model.specs.RunFiles.{IsRunning, RunAt, run_of}
use Rattle.dense_model.proofs.FileLists.{all_files, files_more, first_files, lines_more, started_lines}
use Rattle.dense_model.proofs.files.files_until.Goals as goal

pub push_cycle-requires-clause-same : goal.push_cycle-requires-clause-same
push_cycle-requires-clause-same c = ap (λ (r : RunAt). r.problem) c.in_ok-run.ensures.started

pub push_cycle-requires-clause-running : goal.push_cycle-requires-clause-running
push_cycle-requires-clause-running c =
    let none : c.in_ok-run.run'.cycle ≡ 0 = ap (λ (r : RunAt). r.cycle) c.in_ok-run.ensures.started in
    subst (λ (k : ℕ). IsRunning (run_of (settings_of c.args.problem.now) k)) (sym none) c.in_ok-run.ensures.running

pub cycles-init : goal.cycles-init
cycles-init c =
    let p = settings_of c.args.problem.now in
    let none : c.in_ok-run.run'.cycle ≡ 0 = ap (λ (r : RunAt). r.cycle) c.in_ok-run.ensures.started in
    record {
      same = ap (λ (r : RunAt). r.problem) c.in_ok-run.ensures.started;
      within = omega (arith, none);
      running = subst (λ (k : ℕ). IsRunning (run_of p k)) (sym none) c.in_ok-run.ensures.running;
      files = first_files p c.args.prefix.now c.in_ok-run.run'.cycle _ _ none c.new-files.ensures c.in_ok-push_cycle.ensures.files;
      lines = started_lines p c.in_ok-run.run'.cycle _ _ _ none c.new-history.ensures.items c.in_ok-push_history_heading.ensures c.in_ok-push_cycle.ensures.lines;
    }

pub cycles-preserved : goal.cycles-preserved
cycles-preserved c =
    let p = settings_of c.args.problem.now in
    let before = c.cycles.invariant in
    let next = c.in_ok-push_next.ensures.next in
    let one_more : c.push_next.new.run.cycle ≡ c.cycles.run.cycle + 1 = ap (λ (r : RunAt). r.cycle) next in
    record {
      same = ap (λ (r : RunAt). r.problem) next ∙ before.same;
      within = omega (arith, one_more, c.cycles-test.true, c.cycles-in-cycles.ensures.value);
      running = subst (λ (k : ℕ). IsRunning (run_of p k)) (sym one_more) c.in_ok-push_next.ensures.running;
      files = files_more p c.args.prefix.now c.cycles.run.cycle _ _ _ one_more before.files c.in_ok-push_next.ensures.files;
      lines = lines_more p c.cycles.run.cycle _ _ _ one_more before.lines c.in_ok-push_next.ensures.lines;
    }

pub returns : goal.returns
returns c =
    let before = c.cycles.invariant in
    let here : c.cycles.run.cycle ≡ c.args.cycle = omega (arith, before.within, c.cycles-test.false, c.cycles-in-cycles.ensures.value) in
    all_files (settings_of c.args.problem.now) c.args.prefix.now c.cycles.run c.args.cycle c.cycles.history.items c.cycles.files _ before.same here before.running before.lines before.files c.in_ok-push_last.ensures
