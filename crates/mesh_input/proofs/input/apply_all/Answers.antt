use Rattle.std.proofs.Common.{List, ℕ, [], Bor}
use Rattle.std.proofs.lemmas.Result.{err_from_is_err_and}
use Rattle.mesh_input.proofs.OverrideLemmas.{one_more, one_stops}
use Rattle.mesh_input.proofs.input.apply_all.Goals as goal

pub returns-in_err-apply_one : goal.returns-in_err-apply_one
returns-in_err-apply_one c =
    let p = err_from_is_err_and c.from_residual.result c.from_residual.ensures.1 in
    rw (p.1, p.2) (one_stops {T = Unit {0}} (λ (t : Bor (List ℕ)). t.now) c.args.overrides.now c.loop-i.i (record { ref_ptr = (0, 0); now = [] }) _ c.loop-i.deck (λ _. c.args.deck.now) (λ _. c.args.deck.now) c.in_err-apply_one.field-0.0 c.loop-i-test.true c.loop-i.invariant c.in_err-apply_one.ensures)

pub loop-i-preserved : goal.loop-i-preserved
loop-i-preserved c =
    one_more (λ (t : Bor (List ℕ)). t.now) c.args.overrides.now c.loop-i.i (record { ref_ptr = (0, 0); now = [] }) _ c.loop-i.deck c.apply_one.new.deck c.loop-i-test.true c.loop-i.invariant c.in_ok-apply_one.ensures
