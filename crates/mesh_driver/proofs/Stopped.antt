-- A run that has stopped stays so.
use Rattle.std.proofs.Common.{◌≡◌, ℕ, zero, suc, ◌+◌, ◌-◌, ◌≤◌, List, refl, arith, ap, ◌∙◌}
use Rattle.package_fields.specs.Kernel.{Reacted}
use Rattle.problem_set.specs.Settings.{Settings}
use Rattle.mesh_rules.specs.Run.{next_outcome, run, too_many_at, too_many_at_start}
use Rattle.mesh_laws.proofs.StoppedFiles.{run_more}
use Rattle.dense_model.specs.RunFiles.{run_of}

never_starts : (p : Settings) (react : List ℕ → Reacted) (n : ℕ) → run p react 0 ≡ too_many_at_start → run p react n ≡ too_many_at_start
never_starts p react zero h = h
never_starts p react (suc n) h = run_more p react n ∙ ap (next_outcome p react (suc n)) (never_starts p react n h)

stays : (p : Settings) (react : List ℕ → Reacted) (cycle at leaves k n : ℕ) → cycle + k ≡ n → run p react cycle ≡ too_many_at at leaves → run p react n ≡ too_many_at at leaves
stays p react cycle at leaves zero n e h = let same : n ≡ cycle = omega (arith, e) in ap (run p react) same ∙ h
stays p react cycle at leaves (suc k) n e h =
    let before : n ≡ suc (cycle + k) = omega (arith, e) in
    ap (run p react) before ∙ run_more p react (cycle + k) ∙ ap (next_outcome p react (suc (cycle + k))) (stays p react cycle at leaves k (cycle + k) refl h)

-- a run that could not start is so after all cycles
pub ends_at_start : (p : Settings) → run_of p 0 ≡ too_many_at_start → run_of p p.nlim ≡ too_many_at_start
unfolding run_of
ends_at_start p stop = never_starts p _ p.nlim stop

-- a run that stopped at a cycle is so after all cycles
pub ends_at_cycle : (p : Settings) (n leaves : ℕ) → n ≤ p.nlim → run_of p n ≡ too_many_at n leaves → run_of p p.nlim ≡ too_many_at n leaves
unfolding run_of
ends_at_cycle p n leaves within stop = let whole : n + (p.nlim - n) ≡ p.nlim = omega (arith, within) in stays p _ n n leaves (p.nlim - n) p.nlim whole stop
