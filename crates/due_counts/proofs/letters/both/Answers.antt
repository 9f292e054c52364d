use Rattle.std.proofs.Common.{ℕ, refl}
use Rattle.std.specs.Prelude.{slice_index}
use Rattle.cycle_tables.specs.declared.list_state.Due.{Due}
use Rattle.due_counts.proofs.Totals.{pushed}
use Rattle.due_counts.proofs.letters.both.Goals as goal

pub loop-i-preserved : goal.loop-i-preserved
loop-i-preserved c =
    let each : ℕ → Due = λ i. record { ghosts = slice_index c.args.ghosts.now i; fluxes = slice_index c.args.fluxes.now i } in
    pushed c.loop-i.i each _ _ _ c.in_ok-push.ensures.items c.loop-i.invariant refl
