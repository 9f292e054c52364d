-- What a run of a problem shows: its dumps, how many leaves it has, and what its totals add up to.
use Rattle.std.specs.Prelude.{◌≡◌, ℕ, ◌+◌, List, [], length}
use Rattle.problem_set.specs.Settings.{Settings}
use Rattle.mesh_rules.specs.Fit.{sum_of_all}
use Rattle.mesh_rules.specs.Reaction.{kernel_of}
use Rattle.mesh_rules.specs.Run.{Outcome, Reached, run, running, too_many_at, too_many_at_start}
use Rattle.mesh_rules.specs.Texts.{dump_text}
use Rattle.dense_model.specs.declared.fault.DenseFault.{DenseFault}
use Rattle.dense_model.specs.declared.fault.DenseFault.TheVariants.{NoMemory, TooManyAtStart, TooManyBlocks}

-- how far a run of a problem has come
pub record RunAt : Type 0 where
  pub problem : Settings
  pub cycle : ℕ

-- a problem's run after that many cycles
unfoldable pub run_of : Settings → ℕ → Outcome
run_of p cycle = run p (kernel_of p) cycle

-- a run that goes on
abbrev pub IsRunning : Outcome → Type 0
IsRunning outcome = (r : Reached) × (outcome ≡ running r)

-- what is told of a run that goes on, and what of one that has stopped
abbrev pub of_run : {X : Type 0} → (Reached → X) → X → Outcome → X
of_run tell none (running r) = tell r
of_run tell none too_many_at_start = none
of_run tell none (too_many_at _ _) = none

-- the text of a problem's dump after that many cycles, none where the run has stopped
abbrev pub dump_after : Settings → ℕ → List ℕ
dump_after p cycle = of_run (λ r. dump_text p r.state.mesh cycle) [] (run_of p cycle)

-- how many leaves a problem's run has after that many cycles, none where it has stopped
abbrev pub leaves_after : Settings → ℕ → ℕ
leaves_after p cycle = of_run (λ r. length r.state.mesh.leaves) 0 (run_of p cycle)

-- what all totals of all fields of a problem's run add up to after that many cycles, 0 where it has stopped
abbrev pub total_after : Settings → ℕ → ℕ
total_after p cycle = of_run (λ r. sum_of_all p r.state.mesh) 0 (run_of p cycle)

-- why a run cannot start: the opening tree has too many leaves, or memory ran out
abbrev pub CannotStart : Settings → DenseFault → Type 0
CannotStart p NoMemory = Unit {0}
CannotStart p TooManyAtStart = run_of p 0 ≡ too_many_at_start
CannotStart p (TooManyBlocks cycle leaves) = ⊥

-- why a run cannot go on: after the next cycle the tree has too many leaves, or memory ran out
abbrev pub CannotGoOn : RunAt → DenseFault → Type 0
CannotGoOn r NoMemory = Unit {0}
CannotGoOn r TooManyAtStart = ⊥
CannotGoOn r (TooManyBlocks cycle leaves) = (cycle ≡ r.cycle + 1) × (run_of r.problem cycle ≡ too_many_at cycle leaves)
